-- Devices before and after an opening of all files, for any type D of device. `Disk.Ghosts D` has
-- the ghost items of the trait `Disk` for it.
use Rattle.std.specs.Prelude.{◌≡◌, ◌≢◌, ℕ, ◌+◌, ◌^◌, ◌<◌, ◌≤◌, List, [], length, None, Some, slice_get}
use Rattle.snap_disk.specs.{declared.refusal.Refusal.Refusal, declared.refusal.Refusal.TheVariants.NoMemory}
use Rattle.snap_disk.specs.{Device.MayLeave, Time.LeavesOnly}
use Rattle.snap_segment.specs.{Layout.Head, Layout.Holds, States.IsAtRest, Findings.IsNoOpening, Segment.SegmentState}
use Rattle.snap_segment.specs.{Open.CountsFailed, Refusals.IsOpenRefusal}
use Rattle.snap_history.specs.Pairs.{Pairs}
use Rattle.snap_register.specs.Seat.{Known, own_of, number_in, value_in}
use Rattle.snap_register.specs.declared.plan.UpdatePhase.TheVariants.{Shown}
use Rattle.snap_writer.specs.Writer.{WriterState}
use Rattle.snap_restart.specs.declared.report.Recovered.{Recovered}
use Rattle.snap_disk.specs.declared.disk.Disk as Disk

-- the bytes are the file of segment i of n, with some number and value
abbrev pub IsOpenable : (i n : ℕ) → List ℕ → Type 0
IsOpenable i n b = Head b i n × ((k : ℕ) × (v : List ℕ) × Holds b k v)

-- whatever a crash since d was there, or a crash now, leaves of the device, a crash of d could leave
pub record IsBack {D : Type 0} (disk : Disk.Ghosts D) (d e : D) : Type 0 where
  pub honest_then : disk.is_honest e → disk.is_honest d
  pub any_time : disk.is_honest e → LeavesOnly disk d e (MayLeave (disk.device d))
  pub now : disk.is_honest e → (b : List ℕ) → MayLeave (disk.device e) b → MayLeave (disk.device d) b

-- segment i of n was opened on device d: it isn't fenced, no place is open, and it has the number
-- and value that the bytes held
pub record IsOpened {D : Type 0} (disk : Disk.Ghosts D) (n i : ℕ) (d : D)
    (s : SegmentState D) : Type 0 where
  pub index_is : s.index ≡ i
  pub count_is : s.count ≡ n
  pub unfenced : s.begun ≡ None
  pub failures_same : disk.failure_count s.device ≡ disk.failure_count d
  pub calls : disk.clock s.device ≡ disk.clock d + 2
  pub found : disk.is_honest s.device → Head (disk.device d).bytes i n × Holds (disk.device d).bytes s.number s.value
  pub rests : disk.is_honest s.device → IsAtRest i n s.number s.value s.spare_open (disk.device s.device)
  pub back : IsBack disk d s.device

-- device e was returned for device d, of segment i, by an opening of n segments that was refused at segment k
pub record IsReturned {D : Type 0} (disk : Disk.Ghosts D) (n k : ℕ) (why : Refusal)
    (i : ℕ) (d e : D) : Type 0 where
  pub back : IsBack disk d e
  -- the segments before k were opened
  pub before : i < k → (disk.failure_count e ≡ disk.failure_count d) × (disk.is_honest e
      → IsOpenable i n (disk.device d).bytes)
  -- segment k was refused: unless memory ran out, because of its bytes or a fault
  pub here : i ≡ k → CountsFailed why (disk.failure_count d) (disk.failure_count e)
      × (why ≢ NoMemory → disk.is_honest e → IsNoOpening i n (disk.device d).bytes why)
  -- the segments after k weren't touched
  pub behind : k < i → e ≡ d

-- the opening of these devices was refused at segment k, and all were returned in order
pub record IsStopped {D : Type 0} (disk : Disk.Ghosts D) (olds news : List D)
    (why : Refusal) (k : ℕ) : Type 0 where
  pub kind : IsOpenRefusal why
  pub within : k ≤ length olds
  pub refused : why ≢ NoMemory → k < length olds
  pub returned : Pairs (IsReturned disk (length olds) k why) olds news

-- how many looks a seat has between an opening and the next
abbrev pub all_looks : ℕ
all_looks = 2 ^ 50

-- the seat has seen no update, and has all its looks
abbrev pub IsFresh : Known → Type 0
IsFresh a = (a.seen ≡ []) × (a.left ≡ all_looks)

-- no writer and no scanner has seen an update or made a look
pub record AreFresh {D : Type 0} (writers : List (WriterState D)) (scanners : List Known)
    : Type 0 where
  pub writers_are : (i : ℕ) (w : WriterState D) → slice_get writers i ≡ Some w → IsFresh w.seat
  pub scanners_are : (k : ℕ) (b : Known) → slice_get scanners k ≡ Some b → IsFresh b

-- the seat starts with the segment's number and value, and no store of the segment was begun
pub record Starts {D : Type 0} (s : SegmentState D) (a : Known) : Type 0 where
  pub number_is : s.number ≡ number_in a a.seen (own_of a)
  pub value_is : s.value ≡ value_in a a.seen (own_of a)
  pub unfenced : s.begun ≡ None
  pub phase_is : a.phase ≡ Shown

-- what the report says was recovered of a segment
abbrev pub recovered : {D : Type 0} → SegmentState D → Recovered
recovered s = record { number = s.number; length = length s.value; spare_open = s.spare_open }

-- the number and the value of a segment
abbrev pub contents : {D : Type 0} → SegmentState D → ℕ × List ℕ
contents s = (s.number, s.value)
