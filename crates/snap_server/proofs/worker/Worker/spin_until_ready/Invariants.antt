use Rattle.std.proofs.Common.{◌≡◌}
use Rattle.snap_server.proofs.worker.Worker.spin_until_ready.Given as goal

abbrev pub invariant-loop : goal.invariant-loop
invariant-loop g l = l.self.sessions ≡ l.fn.self.sessions
