-- What every run of calls does to its device.
use Rattle.std.specs.Prelude.{◌≡◌, ℕ, List, length, Result}
use Rattle.snap_disk.specs.{Device.CountsCalls, Device.MayLeave, Time.LeavesOnly, declared.refusal.Refusal.Refusal}
use Rattle.snap_segment.specs.Segment.{CountsRefusal}
use Rattle.snap_disk.specs.declared.disk.Disk as Disk

-- For any device: its failure count grows by one exactly at `DeviceFailed`. Ok takes `made` calls,
-- a refusal at most that many. The length stays, and a device that is honest now was honest before.
pub record Counts {D T : Type 0} (disk : Disk.Ghosts D) (result : Result T Refusal) (made : ℕ)
    (old new : D) : Type 0 where
  pub count : CountsRefusal result (disk.failure_count old) (disk.failure_count new)
  pub size : length (disk.device new).bytes ≡ length (disk.device old).bytes
  pub calls : CountsCalls result made (disk.clock old) (disk.clock new)
  pub honest : disk.is_honest new → disk.is_honest old

-- a crash at any time during the calls or after them leaves only bytes with the property P
pub record Leaves {D : Type 0} (disk : Disk.Ghosts D) (old new : D) (P : List ℕ → Type 0) : Type 0 where
  pub any_time : LeavesOnly disk old new P
  pub now : (b : List ℕ) → MayLeave (disk.device new) b → P b

-- a crash leaves only what it could have left before the calls
abbrev pub LeavesAsBefore : {D : Type 0} (disk : Disk.Ghosts D) (old new : D) → Type 0
LeavesAsBefore disk old new = Leaves disk old new (MayLeave (disk.device old))
