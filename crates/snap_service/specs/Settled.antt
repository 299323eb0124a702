-- The reply to an update, by its segment's number and value.
use Rattle.std.specs.Prelude.{◌≡◌, ◌≢◌, ℕ, ◌+◌, List, Result, Ok, Err}
use Rattle.snap_disk.specs.declared.refusal.Refusal.{Refusal}
use Rattle.snap_history.specs.{declared.limits.TheConstants.LAST_NUMBER, Limits.IsNumber}
use Rattle.snap_memory.specs.Seat.{Known, number_in, value_in}
use Rattle.snap_frame.specs.declared.reply.Reply.{Reply}
use Rattle.snap_frame.specs.declared.reply.Reply.TheVariants.{Stored, Snapshot, Status, Part, Refused}
use Rattle.snap_writer.specs.Writer.{WriterState, number_of, value_of}
use Rattle.snap_disk.specs.declared.refusal.Refusal.TheVariants as refusal

-- an update to number k and value v may be refused with this reason, if its segment has number c and value u
abbrev pub MayRefuse : ℕ → List ℕ → ℕ → List ℕ → Refusal → Type 0
MayRefuse c u k v refusal.Conflict = (k ≡ c) × (v ≢ u)
MayRefuse c u k v refusal.OutOfStep = (k ≢ c) × (k ≢ c + 1)
MayRefuse c u k v refusal.Exhausted = (k ≡ c + 1) × (c ≡ LAST_NUMBER)
MayRefuse c u k v refusal.Fenced = (k ≡ c + 1) × IsNumber k
MayRefuse c u k v refusal.Worn = (k ≡ c + 1) × IsNumber k
MayRefuse c u k v refusal.DeviceFailed = (k ≡ c + 1) × IsNumber k
MayRefuse c u k v refusal.Malformed = ⊥
MayRefuse c u k v refusal.NoSegment = ⊥
MayRefuse c u k v refusal.TooLong = ⊥
MayRefuse c u k v refusal.Full = ⊥
MayRefuse c u k v refusal.NoMemory = ⊥
MayRefuse c u k v refusal.Damaged = ⊥
MayRefuse c u k v refusal.Unformatted = ⊥
MayRefuse c u k v refusal.AlreadyFormatted = ⊥
MayRefuse c u k v refusal.WrongFile = ⊥
MayRefuse c u k v refusal.TooLarge = ⊥
MayRefuse c u k v refusal.NotNow = ⊥

-- the reply to an update to number k and value v fits the segment's number c and its value u
abbrev pub IsSettled : ℕ → List ℕ → ℕ → List ℕ → Reply → Type 0
IsSettled c u k v (Stored number) = (number ≡ k) × (k ≡ c) × (v ≡ u)
IsSettled c u k v (Refused why detail) = (detail ≡ c) × MayRefuse c u k v why
IsSettled c u k v (Snapshot values) = ⊥
IsSettled c u k v (Status statuses) = ⊥
IsSettled c u k v (Part values) = ⊥

-- the reply fits the number and the value of segment i after all that the seat has seen
abbrev pub IsSettledAt : Known → ℕ → ℕ → List ℕ → Reply → Type 0
IsSettledAt a i k v reply = IsSettled (number_in a a.seen i) (value_in a a.seen i) k v reply

-- The reply to an update of segment i without its writer fits what a look at the segment found: nothing is stored, and
-- the next number is refused as fenced.
pub record IsReplyByLook (a : Known) (i k : ℕ) (v : List ℕ) (reply : Reply) : Type 0 where
  pub settled : IsSettledAt a i k v reply
  pub fenced : k ≡ number_in a a.seen i + 1 → IsNumber k → reply ≡ Refused refusal.Fenced (number_in a a.seen i)

-- the reply with a writer's result, at number c
abbrev pub reply_of : ℕ → Result ℕ Refusal → Reply
reply_of c (Ok number) = Stored number
reply_of c (Err why) = Refused why c

-- an update's result fits its writer's number and value, so that it can be the reply
abbrev pub IsTellable : {D : Type 0} → WriterState D → ℕ → List ℕ → Result ℕ Refusal → Type 0
IsTellable w k v told = IsSettled (number_of w) (value_of w) k v (reply_of (number_of w) told) × IsNumber (number_of w)
