-- Replies that a client returned to its caller over an honest connection are among what the service has seen.
use Rattle.std.proofs.Common.{ℕ, List, ◌++◌, Option, append_assoc}
use Rattle.snap_register.specs.{History.starts, Rule.segments}
use Rattle.snap_client.specs.Calls.{fresh}
use Rattle.snap_laws.proofs.Calls.{spoke, run_fits, tail_is, answers_stand}
use Rattle.snap_laws.{specs.Laws.ClientLaw, proofs.Runs.session_told}

pub answered_stands : {R W : Type 0} (remaining : R → Option (List ℕ))
    (contents : W → Option (List ℕ)) → ClientLaw remaining contents
answered_stands remaining contents b qs rs h was seen =
    let connection = was.connection in
    let goes = was.served.turns.goes in
    let new = was.now in
    let said = spoke remaining contents qs rs was.reads (fresh was.reader was.writer) new was.converses in
    let more = connection.given_is.0 in
    let late = connection.taken_is.0 in
    let fits = run_fits was.served.began b goes.payloads (goes.replies ++ goes.unsaid) goes.run in
    answers_stand (segments b.plan) (starts b.plan) h qs rs said.payloads goes.payloads goes.replies goes.unsaid
    goes.rest goes.tail (new.held ++ (more ++ was.served.talk.owed)) late was.sendable said.said fits.0 fits.1
    (session_told b was.served h seen) (simp (connection.taken_is.1, goes.cut, append_assoc))
    (simp (connection.given_is.1, said.cut, append_assoc) at goes.said)
    (tail_is was.served.talk.over was.served.turns.taken goes.payloads goes.replies goes.unsaid goes.rest _ goes.tail
    goes.phase)
