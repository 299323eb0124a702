-- All writers and scanners of one opening, what they have seen, and what their devices hold after they are closed.
use Rattle.std.specs.Prelude.{◌≡◌, ℕ, ◌+◌, ◌<◌, ◌≤◌, List, length, slice_get, Some}
use Rattle.snap_register.specs.Seat.{Known, Grows, number_in, value_in}
use Rattle.snap_register.specs.{Registers.RegistersId, declared.plan.Plan.Plan, Rule.segments}
use Rattle.snap_history.specs.declared.limits.TheConstants.{MAX_COUNT}
use Rattle.snap_history.specs.History.{Update, IsBeginning, updates_of}
use Rattle.snap_segment.specs.Segment.{IsKept}
use Rattle.snap_writer.specs.Writer.{WriterState, number_of, value_of}
use Rattle.snap_disk.specs.declared.disk.Disk as Disk

-- a seat of this opening that writes the segments from `low` on and below `high`
pub record IsSeatAt (table : RegistersId) (plan : Plan) (low high : ℕ) (a : Known) : Type 0 where
  pub table_is : a.table ≡ table
  pub plan_is : a.plan ≡ plan
  pub low_is : a.low ≡ low
  pub high_is : a.high ≡ high

-- the writers of all segments of one opening, in order, and its scanners, at least one
pub record AreBack {D : Type 0} (writers : List (WriterState D)) (scanners : List Known)
    : Type 0 where
  pub table : RegistersId
  pub plan : Plan
  pub all : length writers ≡ segments plan
  pub some : 0 < length writers
  pub few : length writers ≤ MAX_COUNT
  pub some_scanner : 0 < length scanners
  pub writers_are : (i : ℕ) (w : WriterState D) → slice_get writers i ≡ Some w → IsSeatAt table plan i (i + 1) w.seat
  pub scanners_are : (k : ℕ) (b : Known) → slice_get scanners k ≡ Some b → IsSeatAt table plan 0 0 b

-- each writer and each scanner has seen a beginning of the history h, whose updates of a segment
-- are those that its writer showed
pub record IsHistory {D : Type 0} (h : List Update) (writers : List (WriterState D))
    (scanners : List Known) : Type 0 where
  pub writers_saw : (i : ℕ) (w : WriterState D) → slice_get writers i ≡ Some w
      → IsBeginning w.seat.seen h × (updates_of i h ≡ updates_of i w.seat.seen)
  pub scanners_saw : (k : ℕ) (b : Known) → slice_get scanners k ≡ Some b → IsBeginning b.seen h

-- the writer of segment i ended with the number and value that the history has, and its device holds them: no place is
-- open, or after a failed store a crash leaves these or the next number with the value that was begun
pub record HoldsAfter {D : Type 0} (disk : Disk.Ghosts D) (h : List Update)
    (i : ℕ) (w : WriterState D) : Type 0 where
  pub number_is : w.segment.number ≡ number_in w.seat h i
  pub value_is : w.segment.value ≡ value_in w.seat h i
  pub file : disk.is_honest w.segment.device → IsKept w.segment.index w.segment.count
      (number_in w.seat h i) (value_in w.seat h i) w.segment.begun w.segment.spare_open (disk.device w.segment.device)

-- the writer took part in a meeting: its file is unchanged, and its seat may have seen more
pub record HasMet {D : Type 0} (old new : WriterState D) : Type 0 where
  pub segment_is : new.segment ≡ old.segment
  pub grows : Grows old.seat new.seat

-- after a scanner met all writers it has seen all that this writer had; and before that it had seen
-- no update of the writer's segment that the writer hadn't
pub record IsTold (writer before after : Known) : Type 0 where
  pub heard : IsBeginning writer.seen after.seen
  pub no_more : (i : ℕ) → writer.low ≤ i → i < writer.high
      → number_in writer before.seen i ≤ number_in writer writer.seen i

-- the writer's device holds the number and the value shown last
pub record Rests {D : Type 0} (disk : Disk.Ghosts D) (w : WriterState D)
    : Type 0 where
  pub number_is : w.segment.number ≡ number_of w
  pub value_is : w.segment.value ≡ value_of w
  pub kept : disk.is_honest w.segment.device → IsKept w.segment.index w.segment.count w.segment.number
      w.segment.value w.segment.begun w.segment.spare_open (disk.device w.segment.device)
