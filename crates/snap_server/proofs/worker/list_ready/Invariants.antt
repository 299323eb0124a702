use Rattle.std.proofs.Common.{◌≡◌}
use Rattle.snap_server.proofs.worker.list_ready.Given as goal

abbrev pub invariant-loop-event : goal.invariant-loop-event
invariant-loop-event g l = l.sessions.service ≡ l.fn.sessions.service
