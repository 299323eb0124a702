-- Clients that receive what a service replies: the laws' premises can be met.
use Rattle.std.specs.Prelude.{◌≡◌, ℕ, ◌^◌, List, [], ◌∷◌, Option, Some, None}
use Rattle.snap_history.specs.History.{Update}
use Rattle.snap_register.specs.{declared.plan.Plan.Plan, History.starts, Seat.Known, Registers.no_registers}
use Rattle.snap_register.specs.declared.plan.UpdatePhase.TheVariants.{Shown}
use Rattle.snap_frame.specs.Messages.{payload, frame, IsInLimits}
use Rattle.snap_frame.specs.declared.{request.Request.Request, reply.Reply.Reply, reply.Reply.TheVariants.Stored}
use Rattle.snap_service.specs.Answers.{Answers}
use Rattle.snap_restart.specs.LifeCrash.{Has}
use Rattle.snap_laws.specs.Told.{IsSendable}
use Rattle.snap_laws.specs.Laws.{SessionUpTo, Begins, WasAnswered}
use Rattle.snap_frame.specs.declared.request.Request.TheVariants as request
use Rattle.snap_client.specs.Calls as calls

-- a reader that has these bytes left, or a writer that has received them
abbrev pub bytes_of : List ℕ → Option (List ℕ)
bytes_of bytes = Some bytes

-- a socket: nothing is known of its bytes
abbrev pub socket : Unit {0} → Option (List ℕ)
socket s = None

-- Whatever a service replies to a request that a client may send, a client may have returned to its
-- caller over an honest connection to a session of that service.
abbrev pub HeardLaw : {R W : Type 0} → (R → Option (List ℕ)) → (W → Option (List ℕ)) → Type 0
HeardLaw remaining contents = (a b : Known) (q : Request) (r : Reply) → IsSendable q → IsInLimits r
    → calls.Answers q r → Answers a q r b → WasAnswered remaining contents b (q ∷ []) (r ∷ [])

-- The client's reader gave it these bytes. So for any service: if a session of it took in exactly what the client
-- writes for this request, and these bytes are a beginning of what the session gave out, then the client got this reply
-- over an honest connection. It is so if the reader, where its bytes are known, has what the session gave out.
pub record HearsFrom {R W : Type 0} (remaining : R → Option (List ℕ)) (contents : W → Option (List ℕ))
    (reader : R) (q : Request) (r : Reply) : Type 0 where
  pub read : List ℕ
  pub of_reader : (given : List ℕ) → remaining reader ≡ Some given → Begins read given
  pub was_answered : (b : Known) (s : SessionUpTo b) → s.turns.taken ≡ frame (payload q)
      → Begins read s.turns.given → WasAnswered remaining contents b (q ∷ []) (r ∷ [])

-- the registers of one file with number 0 and the empty value
abbrev pub one_file : Plan
one_file = record {
  scanners = 1;
  looks = 2 ^ 50;
  block_words = 0;
  start = record { number = 0; words = [] } ∷ [];
}

-- a scanner of that file that has seen these updates
abbrev pub scanner_after : List Update → Known
scanner_after seen = record {
  table = no_registers;
  plan = one_file;
  seen = seen;
  low = 0;
  high = 0;
  pins = 0 ∷ [];
  records = 0 ∷ [];
  left = 2 ^ 50;
  look_records = [];
  phase = Shown;
}

abbrev pub first_update : Update
first_update = record { segment = 0; value = 7 ∷ [] }

-- A client has heard that the first update of that file is stored; and it is in the history.
abbrev pub FirstHeard : Type 0
FirstHeard = WasAnswered bytes_of bytes_of (scanner_after (first_update ∷ []))
    (request.Update 0 1 (7 ∷ []) ∷ []) (Stored 1 ∷ []) × Has (starts one_file) (first_update ∷ []) 0 1 (7 ∷ [])
