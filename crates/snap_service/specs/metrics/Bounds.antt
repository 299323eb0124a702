-- The bounds of a histogram, in nanoseconds.
use Rattle.std.specs.Prelude.{ℕ, ◌*◌, ◌^◌, ◌<◌, ◌≤◌}
use Rattle.snap_service.specs.declared.metrics.snapshot.TheConstants.{BOUNDS, FIRST_BOUND}

-- the bound at this index: the first one, and at each further index twice the one before
abbrev pub bound_at : ℕ → ℕ
bound_at place = FIRST_BOUND * 1000 * 2 ^ place

-- the index of the bucket of a time: the first whose bound isn't smaller, or the last if each bound is
pub record IsPlaceOf (nanoseconds place : ℕ) : Type 0 where
  pub there : place ≤ BOUNDS
  pub no_less : place < BOUNDS → nanoseconds ≤ bound_at place
  pub above_those_before : (k : ℕ) → k < place → bound_at k < nanoseconds
