use Rattle.std.proofs.Common.{◌≡◌, ℕ, ◌<◌}
use Rattle.snap_service.specs.metrics.Bounds.{bound_at}
use Rattle.snap_service.proofs.metrics.histogram.place_of.Given as goal

abbrev pub invariant-loop-place : goal.invariant-loop-place
invariant-loop-place l = (l.bound ≡ bound_at l.place) × ((k : ℕ) → k < l.place → bound_at k < l.nanoseconds)
