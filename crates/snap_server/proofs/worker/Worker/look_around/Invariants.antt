use Rattle.std.proofs.Common.{◌≡◌}
use Rattle.snap_server.proofs.worker.Worker.look_around.Given as goal

abbrev pub invariant-loop-key : goal.invariant-loop-key
invariant-loop-key g l = l.self.sessions.service ≡ l.fn.self.sessions.service
