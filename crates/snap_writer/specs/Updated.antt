-- All effects of an update on its writer.
use Rattle.std.specs.Prelude.{◌≡◌, ◌≢◌, ℕ, List, length, Result, None, OnOk, OnErr}
use Rattle.snap_disk.specs.Device.{IsSettled, CountsCalls, MayLeave}
use Rattle.snap_disk.specs.{declared.refusal.Refusal.Refusal, Time.LeavesOnly}
use Rattle.snap_segment.specs.{Layout.IsFileOf, States.IsEither, Stage.store_calls, Segment.CountsRefusal}
use Rattle.snap_register.specs.Seat.{IsBelow}
use Rattle.snap_memory.specs.Scans.{TakesLooks}
use Rattle.snap_writer.specs.Writer.{WriterState, number_of, value_of}
use Rattle.snap_writer.specs.Update.{IsSameSeat, Advances, Fails}
use Rattle.snap_writer.specs.{Judge.IsJudged, Judge.IsAnswer, declared.judgement.Judgement.Judgement}
use Rattle.snap_writer.specs.{declared.judgement.Judgement.TheVariants.Go, Life.HasLived, Life.StoresFirst}
use Rattle.snap_disk.specs.declared.disk.Disk as Disk

-- The writer got an update to number k and value v, and returned `told`. `Disk.Ghosts D` has the
-- ghost items of the trait `Disk` for a device of type D.
pub record IsUpdated {D : Type 0} (disk : Disk.Ghosts D) (old new : WriterState D) (k : ℕ)
    (v : List ℕ) (told : Result ℕ Refusal) : Type 0 where
  pub count : CountsRefusal told (disk.failure_count old.segment.device) (disk.failure_count new.segment.device)
  pub honest_then : disk.is_honest new.segment.device → disk.is_honest old.segment.device
  pub same_seat : IsSameSeat old.seat new.seat
  -- its result; all rules but Go change nothing
  pub judged : (rule : Judgement) → IsJudged old k v rule → IsAnswer k rule told
  pub unchanged : (rule : Judgement) → IsJudged old k v rule → rule ≢ Go → new ≡ old
  -- the effects under Go
  pub advances : IsJudged old k v Go → OnOk told (Advances old new v)
  pub fails : IsJudged old k v Go → OnErr told (Fails old new v)
  pub calls : IsJudged old k v Go → CountsCalls told (length (store_calls old.segment.spare_open))
      (disk.clock old.segment.device) (disk.clock new.segment.device)
  pub left : IsJudged old k v Go → TakesLooks old.seat new.seat
  pub below : IsJudged old k v Go → IsBelow new.seat
  -- it is a part of its writer's life; under Go it stores first and shows second
  pub lived : HasLived disk old new
  pub stored_first : IsJudged old k v Go → StoresFirst disk v old new
  -- a crash at any time during the call leaves the number and value shown last, or those being stored
  pub any_time : disk.is_honest new.segment.device → old.segment.begun ≡ None
      → LeavesOnly disk old.segment.device new.segment.device
      (IsEither old.segment.index old.segment.count (number_of old) (value_of old) v)
  -- after Ok under Go no place is open, and a crash leaves the new value
  pub last : disk.is_honest new.segment.device → IsJudged old k v Go
      → OnOk told (IsSettled (disk.device new.segment.device)
      × ((b : List ℕ) → MayLeave (disk.device new.segment.device) b
      → IsFileOf old.segment.index old.segment.count k v b))
  -- after a fault a crash leaves the old value or the new one
  pub either : disk.is_honest new.segment.device → IsJudged old k v Go
      → OnErr told ((b : List ℕ) → MayLeave (disk.device new.segment.device) b
      → IsEither old.segment.index old.segment.count (number_of old) (value_of old) v b)
