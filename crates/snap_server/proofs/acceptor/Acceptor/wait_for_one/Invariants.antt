use Rattle.snap_server.specs.Deals.{AsksInVain}
use Rattle.snap_server.proofs.acceptor.Acceptor.wait_for_one.Given as goal

-- no call so far accepted a connection
abbrev pub invariant-loop : goal.invariant-loop
invariant-loop g l = AsksInVain g.L.Listen.accepts l.fn.listener l.listener
    × (g.L.Listen.refuses l.listener → g.L.Listen.refuses l.fn.listener)
