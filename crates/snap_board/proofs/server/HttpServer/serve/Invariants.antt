use Rattle.snap_board.specs.Answered.{Answered}
use Rattle.snap_board.proofs.server.HttpServer.serve.Given as goal

abbrev pub invariant-loop : goal.invariant-loop
invariant-loop g l = Answered g.S.Service.answers l.fn.service l.service
