use Rattle.snap_board.specs.Answered.{Answered}
use Rattle.snap_board.proofs.server.connection.HttpConnection.go_on.Given as goal

abbrev pub invariant-steps : goal.invariant-steps
invariant-steps g l = Answered g.S.Service.answers l.fn.service l.service
