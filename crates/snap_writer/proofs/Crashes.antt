-- The promises of a device about a crash now and a crash since some time.
use Rattle.std.proofs.Common.{ℕ, ◌≤◌, List}
use Rattle.snap_disk.specs.Device.{MayLeave}
use Rattle.snap_disk.specs.declared.disk.Disk as Disk

module _ {D : Type 0} (disk : Disk.Ghosts D) where
  -- a crash now is a crash since any earlier time
  abbrev pub CountsNow : Type 0
  CountsNow = (d : D) (t : ℕ) (b : List ℕ) → disk.is_honest d → t ≤ disk.clock d
      → MayLeave (disk.device d) b → disk.might_have_left d t b

  -- a crash since now is a crash of the device as it is
  abbrev pub OnlyNow : Type 0
  OnlyNow = (d : D) (b : List ℕ) → disk.is_honest d → disk.might_have_left d (disk.clock d) b
      → MayLeave (disk.device d) b
