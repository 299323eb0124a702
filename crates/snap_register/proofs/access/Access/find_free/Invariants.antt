use Rattle.std.proofs.Common.{◌≤◌}
use Rattle.snap_register.specs.{Rule.seats, Steps.view_of, Steps.pool_of, Steps.IsSameSeat, Steps.HasPool}
use Rattle.snap_register.proofs.access.Access.find_free.Given as goal

abbrev pub invariant-loop-k : goal.invariant-loop-k
invariant-loop-k l = record {
  same : IsSameSeat l.initial.self l.self;
  pool : HasPool l.initial.self l.self (record (pool_of l.initial.self) { found_pinned = l.k });
  few : l.k ≤ seats (view_of l.initial.self).plan;
}
