use Rattle.snap_board.specs.Answered.{Answered}
use Rattle.snap_board.proofs.server.HttpServer.take_events.Given as goal

abbrev pub invariant-loop-event : goal.invariant-loop-event
invariant-loop-event g l = Answered g.S.Service.answers l.fn.service l.service
