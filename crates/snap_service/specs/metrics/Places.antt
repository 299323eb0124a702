-- The size of a server's metrics, and what is known of those that were read.
use Rattle.std.specs.Prelude.{ℕ, ◌≤◌}
use Rattle.snap_service.specs.declared.metrics.snapshot.MetricsSnapshot.{MetricsSnapshot}

-- the number of workers and the number of segments
pub record Places : Type 0 where
  pub workers : ℕ
  pub segments : ℕ

-- no more connections are open than were accepted
abbrev pub IsWithinAccepted : MetricsSnapshot → Type 0
IsWithinAccepted r = r.open ≤ r.accepted
