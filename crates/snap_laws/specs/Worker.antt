-- The sessions of a server's worker, whose service is a scanner's with others around it.
use Rattle.std.specs.Prelude.{◌≡◌, ℕ, List, ◌++◌, Option}
use Rattle.snap_history.specs.History.{Update, IsBeginning}
use Rattle.snap_register.specs.{History.starts, Rule.segments, Seat.Known}
use Rattle.snap_frame.specs.declared.{request.Request.Request, reply.Reply.Reply}
use Rattle.snap_session.specs.Talk.{Talk, Moves, start}
use Rattle.snap_session.specs.Turns.{Turns}
use Rattle.snap_laws.specs.{Told.AreTold, Laws.SessionUpTo}

module _ {S : Type 0} (gives : S → Request → Reply → S → Type 0) (scanner : S → Known) where
  -- a session from its start, while the service went from one state to another, with other sessions'
  -- requests answered between its own
  abbrev pub SessionOn : S → S → Option (List ℕ) → Option (List ℕ) → Option (List ℕ) → Option (List ℕ) → Talk → Type 0
  SessionOn first now r0 r1 w0 w1 talk = Turns (Moves gives) gives first now start r0 r1 w0 w1 talk

  -- it is a session of the scanner: with the same requests, replies and bytes
  pub record IsOfScanner {first now : S} {r0 r1 w0 w1 : Option (List ℕ)} {talk : Talk}
      (on : SessionOn first now r0 r1 w0 w1 talk) : Type 0 where
    pub served : SessionUpTo (scanner now)
    pub talk_is : served.talk ≡ talk
    pub taken_is : served.turns.taken ≡ on.taken
    pub given_is : served.turns.given ≡ on.given
    pub requests_are : served.turns.goes.payloads ≡ on.goes.payloads
    pub replies_are : served.turns.goes.replies ≡ on.goes.replies
    pub unsaid_are : served.turns.goes.unsaid ≡ on.goes.unsaid

  -- each session is one of the scanner
  abbrev pub OfScannerLaw : Type 0
  OfScannerLaw = (first now : S) (r0 r1 w0 w1 : Option (List ℕ)) (talk : Talk)
      (on : SessionOn first now r0 r1 w0 w1 talk) → IsOfScanner on

  -- all replies that it has owed its peer: what they say is in each history that begins with what the
  -- scanner has seen by now
  abbrev pub WorkerLaw : Type 0
  WorkerLaw = (first now : S) (r0 r1 w0 w1 : Option (List ℕ)) (talk : Talk)
      (on : SessionOn first now r0 r1 w0 w1 talk) (h : List Update) → IsBeginning (scanner now).seen h
      → AreTold (segments (scanner now).plan) (starts (scanner now).plan) h on.goes.payloads
      (on.goes.replies ++ on.goes.unsaid)
