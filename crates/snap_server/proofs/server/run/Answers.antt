use Rattle.snap_server.proofs.Deals.{dealt_accepted}
use Rattle.snap_server.proofs.server.run.Goals as goal

pub returns-clause-accepted : goal.returns-clause-accepted
returns-clause-accepted g c =
    dealt_accepted g.L.Listen.accepts _ _ _ _ _ c.run_threads.result c.run_threads.ensures.deals
