-- Values that the writers of an opening have stored stay.
use Rattle.std.specs.Prelude.{◌≡◌, ℕ, List, length, Some, slice_get}
use Rattle.snap_writer.specs.{Writer.WriterState, Life.Lived}
use Rattle.snap_restart.specs.LifeDurability.{Stays}
use Rattle.snap_disk.specs.declared.disk.Disk as Disk

module _ {D : Type 0} (disk : Disk.Ghosts D) where
  -- Whatever these writers do from now on: once the writer of segment i has reached a, a crash at any later time leaves
  -- what was stored at a, or something later, whatever the writer has done since.
  abbrev pub AllStays : List (WriterState D) → Type 0
  AllStays writers = (i : ℕ) (w a z : WriterState D) (before life : List (WriterState D)) → slice_get writers i ≡ Some w
      → Lived disk w before a → Lived disk a life z → disk.is_honest z.segment.device
      → Stays disk (length writers) i a life z
