use Rattle.std.proofs.Common.{[], refl}
use Rattle.snap_server.proofs.Deals.{vain_more}
use Rattle.snap_server.proofs.acceptor.Acceptor.wait_for_one.Goals as goal

pub loop-init : goal.loop-init
loop-init g c = (([], refl), λ refuses. refuses)

pub loop-preserved-in-Err-Gone : goal.loop-preserved-in-Err-Gone
loop-preserved-in-Err-Gone g c = (
  vain_more g.L.Listen.accepts _ _ _ _ c.loop.invariant.0 c.in-Err-Gone.ensures.vain,
  λ refuses. c.loop.invariant.1 (c.try_one.ensures.same refuses),
)

pub loop-preserved : goal.loop-preserved
loop-preserved g c = (
  vain_more g.L.Listen.accepts _ _ _ _ c.loop.invariant.0 c.in-Err-NoRoom.ensures.vain,
  λ refuses. c.loop.invariant.1 (c.try_one.ensures.same refuses),
)

pub returns-in-Err-Failed-clause-vain : goal.returns-in-Err-Failed-clause-vain
returns-in-Err-Failed-clause-vain g c =
    vain_more g.L.Listen.accepts _ _ _ _ c.loop.invariant.0 c.in-Err-Failed.ensures.vain
