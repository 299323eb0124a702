use Rattle.snap_server.proofs.Deals.{dealt_more}
use Rattle.snap_server.proofs.dispatcher.Dispatcher.accept_all.Goals as goal

pub loop-preserved : goal.loop-preserved
loop-preserved g c = dealt_more _ _ _ _ _ _ _ _ _ _ _ _ _ _ c.loop.invariant c.in_ok-accept_one.ensures.handed
    c.in_ok-accept_one.ensures.same c.in_ok-accept_one.ensures.in_turn c.in_ok-accept_one.ensures.senders

pub returns-in-Some-clause-asked : goal.returns-in-Some-clause-asked
returns-in-Some-clause-asked g c = c.in-Some.is
