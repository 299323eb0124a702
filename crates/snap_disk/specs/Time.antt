-- What crashes since some time might have left of a device. `Disk.Ghosts D` has the ghost items of
-- the trait `Disk` for a device of type D.
use Rattle.std.specs.Prelude.{◌⊎◌, ℕ, ◌≤◌, List}
use Rattle.snap_disk.specs.declared.disk.Disk as Disk

-- All bytes that a crash since old might have left have the property P.
pub record LeavesOnly {D : Type 0} (disk : Disk.Ghosts D) (old new : D) (P : List ℕ → Type 0)
    : Type 0 where
  pub later : disk.clock old ≤ disk.clock new
  pub each : (b : List ℕ) → disk.might_have_left new (disk.clock old) b → P b
  -- bytes that a crash since an earlier time t might have left could already be left before, or have P
  pub before : (t : ℕ) (b : List ℕ) → t ≤ disk.clock old → disk.might_have_left new t b
      → disk.might_have_left old t b ⊎ P b
