use Rattle.snap_board.proofs.Calls.{answered_joins}
use Rattle.snap_board.proofs.server.HttpServer.serve.Goals as goal

pub loop-preserved : goal.loop-preserved
loop-preserved g c = answered_joins g.S.Service.answers c.args.service.now c.loop.service c.take_events.new.service
    c.loop.invariant c.take_events.ensures
