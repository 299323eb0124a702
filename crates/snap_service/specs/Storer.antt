-- The state of a storer, and the published status of a writer.
use Rattle.std.specs.Prelude.{◌≡◌, ◌⊎◌, ℕ, ◌+◌, ◌*◌, Bool, true, false, is_some}
use Rattle.snap_memory.specs.Seat.{own_of}
use Rattle.snap_service.specs.{Writer.WriterState, Writer.number_of, Updated.IsUpdated, Counted.next_count}
use Rattle.snap_service.specs.Came.{Came}
use Rattle.snap_disk.specs.declared.disk.Disk as Disk

-- the word is twice the writer's number, plus one if it is fenced
pub record IsWordOf {D : Type 0} (w : WriterState D) (word : ℕ) : Type 0 where
  pub unfenced : is_some w.segment.begun ≡ false → word ≡ number_of w * 2
  pub fenced : is_some w.segment.begun ≡ true → word ≡ number_of w * 2 + 1

-- the segment of a storer's queue, how many updates have arrived, and how many of them were taken, both modulo 2^64
pub record Queued : Type 0 where
  pub segment : ℕ
  pub came : ℕ
  pub taken : ℕ

-- how many updates have arrived, if `taken` were taken and one waits or none does
abbrev pub came_by : ℕ → Bool → ℕ
came_by taken true = next_count taken
came_by taken false = taken

-- an update waits to be taken
abbrev pub IsWaiting : Queued → Type 0
IsWaiting q = q.came ≡ next_count q.taken

-- a new storer is of this segment, and no update has arrived
abbrev pub IsNew : ℕ → Queued → Type 0
IsNew segment q = q ≡ record { segment = segment; came = 0; taken = 0 }

-- Nothing was done. No update was taken: none arrived, or it waits.
pub record IsIdle (old new : Queued) : Type 0 where
  pub taken : new.taken ≡ old.taken
  pub waits : (new ≡ old) ⊎ IsWaiting new

-- One job was taken, and no other one waits. A writer of the segment was updated once, to that job's number and value,
-- with this result; it is lent in the state that it then has.
pub record StoresOne {D : Type 0} (disk : Disk.Ghosts D) (old : Queued) (came : Came D) (new : Queued) : Type 0 where
  pub writer : WriterState D
  pub own : own_of writer.seat ≡ old.segment
  pub updated : IsUpdated disk writer came.writer came.job.number came.job.value came.told
  pub same : new.segment ≡ old.segment
  pub one : new.taken ≡ next_count old.taken
  pub no_more : new.came ≡ new.taken
