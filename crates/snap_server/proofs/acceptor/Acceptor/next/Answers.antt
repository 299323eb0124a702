use Rattle.snap_server.proofs.Deals.{gives_behind, vain_behind}
use Rattle.snap_server.proofs.acceptor.Acceptor.next.Goals as goal

pub returns-in-Some-clause-came : goal.returns-in-Some-clause-came
returns-in-Some-clause-came g c = gives_behind g.L.Listen.accepts _ _ _ _ c.loop-rest.invariant.1 c.in-Some.ensures.came

pub loop-rest-preserved : goal.loop-rest-preserved
loop-rest-preserved g c = (
  λ some. c.loop-rest.invariant.2 c.in_default.ensures.deaf,
  vain_behind g.L.Listen.accepts _ _ _ c.loop-rest.invariant.1 c.in_default.ensures.vain,
  λ refuses. c.loop-rest.invariant.2 (c.wait_for_one.ensures.same refuses),
)
