-- The judge: which rule decides an update, and with which result.
use Rattle.std.specs.Prelude.{◌≡◌, ◌≢◌, ℕ, ◌+◌, ◌<◌, ◌≤◌, List, length, IsSome, None, Result, Ok, Err}
use Rattle.snap_disk.specs.declared.refusal.Refusal.{Refusal}
use Rattle.snap_disk.specs.declared.refusal.Refusal.TheVariants as refusal
use Rattle.snap_history.specs.declared.limits.TheConstants.{MAX_VALUE_LEN, LAST_NUMBER}
use Rattle.snap_history.specs.Limits.{IsNumber, IsShort}
use Rattle.snap_register.specs.Rule.{segments}
use Rattle.snap_memory.specs.Looks.{most_looks}
use Rattle.snap_writer.specs.Writer.{WriterState, number_of, value_of}
use Rattle.snap_writer.specs.declared.judgement.Judgement.{Judgement}
use Rattle.snap_writer.specs.declared.judgement.Judgement.TheVariants.{TooLong, Stored, Conflict, OutOfStep}
use Rattle.snap_writer.specs.declared.judgement.Judgement.TheVariants.{Exhausted, Fenced, Worn, Go}

-- the update has the number after the last one shown
abbrev pub IsNext : {D : Type 0} → WriterState D → ℕ → List ℕ → Type 0
IsNext w k v = IsShort v × (k ≡ number_of w + 1)

-- this rule of the writer decides an update to number k and value v: the first that applies
abbrev pub IsJudged : {D : Type 0} → WriterState D → ℕ → List ℕ → Judgement → Type 0
IsJudged w k v TooLong = MAX_VALUE_LEN < length v
IsJudged w k v Stored = IsShort v × (k ≡ number_of w) × (v ≡ value_of w)
IsJudged w k v Conflict = IsShort v × (k ≡ number_of w) × (v ≢ value_of w)
IsJudged w k v OutOfStep = IsShort v × (k ≢ number_of w) × (k ≢ number_of w + 1)
IsJudged w k v Exhausted = IsNext w k v × (number_of w ≡ LAST_NUMBER)
IsJudged w k v Fenced = IsNext w k v × IsNumber k × IsSome w.segment.begun
IsJudged w k v Worn = IsNext w k v × IsNumber k × (w.segment.begun ≡ None)
    × (w.seat.left < most_looks (segments w.seat.plan))
IsJudged w k v Go = IsNext w k v × IsNumber k × (w.segment.begun ≡ None)
    × (most_looks (segments w.seat.plan) ≤ w.seat.left)

-- the result of an update to number k under each rule; under Go the device may fail
abbrev pub IsAnswer : ℕ → Judgement → Result ℕ Refusal → Type 0
IsAnswer k TooLong answer = answer ≡ Err refusal.TooLong
IsAnswer k Stored answer = answer ≡ Ok k
IsAnswer k Conflict answer = answer ≡ Err refusal.Conflict
IsAnswer k OutOfStep answer = answer ≡ Err refusal.OutOfStep
IsAnswer k Exhausted answer = answer ≡ Err refusal.Exhausted
IsAnswer k Fenced answer = answer ≡ Err refusal.Fenced
IsAnswer k Worn answer = answer ≡ Err refusal.Worn
IsAnswer k Go (Ok n) = n ≡ k
IsAnswer k Go (Err why) = why ≡ refusal.DeviceFailed
