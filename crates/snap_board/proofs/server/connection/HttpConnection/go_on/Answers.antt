use Rattle.snap_board.proofs.Calls.{answered_joins, answered_none}
use Rattle.snap_board.proofs.server.connection.HttpConnection.go_on.Goals as goal

pub steps-init : goal.steps-init
steps-init g c = answered_none g.S.Service.answers _

pub steps-preserved : goal.steps-preserved
steps-preserved g c = answered_joins g.S.Service.answers c.args.service.now c.steps.service c.step.new.service
    c.steps.invariant c.step.ensures

pub returns-in-Ok-false : goal.returns-in-Ok-false
returns-in-Ok-false g c =
    answered_joins g.S.Service.answers c.args.service.now c.steps.service c.step.new.service
    c.steps.invariant c.step.ensures

pub returns-in-WouldBlock : goal.returns-in-WouldBlock
returns-in-WouldBlock g c =
    answered_joins g.S.Service.answers c.args.service.now c.steps.service c.step.new.service
    c.steps.invariant c.step.ensures

pub returns-in_default : goal.returns-in_default
returns-in_default g c =
    answered_joins g.S.Service.answers c.args.service.now c.steps.service c.step.new.service
    c.steps.invariant c.step.ensures
