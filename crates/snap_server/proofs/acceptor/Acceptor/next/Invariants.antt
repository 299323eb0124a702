use Rattle.std.proofs.Common.{◌<◌}
use Rattle.snap_server.specs.Deals.{AsksInVain}
use Rattle.snap_server.proofs.acceptor.Acceptor.next.Given as goal

-- each try so far failed
abbrev pub invariant-loop-rest : goal.invariant-loop-rest
invariant-loop-rest g l = (0 < l.rest-index → g.L.Listen.refuses l.fn.listener)
    × AsksInVain g.L.Listen.accepts l.fn.listener l.listener
    × (g.L.Listen.refuses l.listener → g.L.Listen.refuses l.fn.listener)
