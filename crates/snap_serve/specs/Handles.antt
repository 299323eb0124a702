-- The handles of a memory's storers.
use Rattle.std.specs.Prelude.{◌≡◌, ℕ, List, Some, length, slice_get}

-- one for each of n segments, each at its segment's place
pub record AreHandles (n : ℕ) (handles : List ℕ) : Type 0 where
  pub all : length handles ≡ n
  pub each : (i h : ℕ) → slice_get handles i ≡ Some h → h ≡ i
