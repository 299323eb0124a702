use Rattle.snap_session.specs.Talk.{Moves}
use Rattle.snap_server.proofs.worker.WorkerWork.work.Given as goal

abbrev pub invariant-loop : goal.invariant-loop
invariant-loop g l = Moves g.S.Service.gives l.fn.self.sessions.service l.self.sessions.service
