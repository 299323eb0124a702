-- A crash after some time leaves of a writer's file what was stored by then, or something later.
use Rattle.std.specs.Prelude.{◌≡◌, ℕ, ◌≤◌, List}
use Rattle.snap_slot.specs.Layout.{IsFileOf}
use Rattle.snap_register.specs.declared.plan.Plan.{Plan}
use Rattle.snap_writer.specs.{Writer.WriterState, Life.IsWriterOf}
use Rattle.snap_disk.specs.declared.disk.Disk as Disk

module _ {D : Type 0} (disk : Disk.Ghosts D) where
  -- w is a writer of some opening
  abbrev pub IsAWriter : WriterState D → Type 0
  IsAWriter w = (plan : Plan) × (n : ℕ) × (i : ℕ) × IsWriterOf disk plan n i w

  -- a crash at any time since leaves the number stored then, with its value, or a later number
  abbrev pub LosesNothing : WriterState D → WriterState D → Type 0
  LosesNothing old new = disk.is_honest new.segment.device → (b : List ℕ)
      → disk.might_have_left new.segment.device (disk.clock old.segment.device) b
      → (k : ℕ) × (v : List ℕ) × IsFileOf old.segment.index old.segment.count k v b
      × (old.segment.number ≤ k) × (k ≡ old.segment.number → v ≡ old.segment.value)
