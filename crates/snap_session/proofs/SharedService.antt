-- Several sessions on one service.
use Rattle.std.proofs.Common.{ℕ, List, Option}
use Rattle.snap_frame.specs.declared.{request.Request.Request, reply.Reply.Reply}
use Rattle.snap_session.specs.Talk.{Talk, Stays, Moves}
use Rattle.snap_session.specs.Turns.{Turns}
use Rattle.snap_session.proofs.{Runs.moves_joins, Continuation.loosen, TurnRuns.turns_on, TurnRuns.begins}

module _ {S : Type 0} (gives : S → Request → Reply → S → Type 0) where
  pub turns_loosen : (s t : S) (old : Talk) (r0 r1 w0 w1 : Option (List ℕ)) (new : Talk)
      → Turns Stays gives s t old r0 r1 w0 w1 new → Turns (Moves gives) gives s t old r0 r1 w0 w1 new
  turns_loosen s t old r0 r1 w0 w1 new one = record {
    taken = one.taken;
    given = one.given;
    read = one.read;
    writes = one.writes;
    goes = loosen gives s t old one.taken one.given new one.goes;
  }

  -- a session begins on a shared service
  pub shares : (s : S) (t : Talk) (r w : Option (List ℕ)) → Turns (Moves gives) gives s s t r r w w t
  shares s t r w = turns_loosen s s t r r w w t (begins gives s t r w)

  -- the session has a turn
  pub has_turn : (s t u : S) (t0 t1 t2 : Talk) (r0 r1 r2 w0 w1 w2 : Option (List ℕ))
      → Turns (Moves gives) gives s t t0 r0 r1 w0 w1 t1 → Turns Stays gives t u t1 r1 r2 w1 w2 t2
      → Turns (Moves gives) gives s u t0 r0 r2 w0 w2 t2
  has_turn s t u t0 t1 t2 r0 r1 r2 w0 w1 w2 one two =
      turns_on (Moves gives) (moves_joins gives) gives s t u t0 t1 t2 r0 r1 r2 w0 w1 w2 one
      (turns_loosen t u t1 r1 r2 w1 w2 t2 two)
