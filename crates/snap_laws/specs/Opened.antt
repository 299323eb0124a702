-- The writers of an opening before they have done anything.
use Rattle.std.specs.Prelude.{◌≡◌, ℕ, List, length, map, Some, slice_get}
use Rattle.snap_history.specs.Pairs.{Pairs}
use Rattle.snap_writer.specs.Writer.{WriterState}
use Rattle.snap_restart.specs.{Opened.IsOpened, Opened.IsFresh, Crash.AreOpened}
use Rattle.snap_disk.specs.declared.disk.Disk as Disk

-- the writers with which the files on these devices were opened
pub record AreNew {D : Type 0} (disk : Disk.Ghosts D) (devices : List D)
    (writers : List (WriterState D)) : Type 0 where
  pub were : Pairs (IsOpened disk (length devices)) devices (map (λ (w : WriterState D). w.segment) writers)
  pub opened : AreOpened disk devices writers
  pub fresh : (i : ℕ) (w : WriterState D) → slice_get writers i ≡ Some w → IsFresh w.seat
