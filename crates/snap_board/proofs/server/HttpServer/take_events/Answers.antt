use Rattle.snap_board.proofs.Calls.{answered_joins}
use Rattle.snap_board.proofs.server.HttpServer.take_events.Goals as goal

pub loop-event-preserved : goal.loop-event-preserved
loop-event-preserved g c =
    answered_joins g.S.Service.answers c.args.service.now c.loop-event.service c.go_on.new.service
    c.loop-event.invariant c.go_on.ensures
