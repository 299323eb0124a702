use Rattle.snap_server.proofs.Deals.{HasDealt}
use Rattle.snap_server.proofs.dispatcher.Dispatcher.accept_all.Given as goal

abbrev pub invariant-loop : goal.invariant-loop
invariant-loop g l = HasDealt g.L.Listen.accepts g.L.Listen.refuses g.H.Deliver.takes g.H.Deliver.is_busy
    g.H.Deliver.was_idle l.fn.self.senders.now l.counter l.fn.listener l.listener l.self.senders.now l.self.next

abbrev pub invariant-loop-2 : goal.invariant-loop-2
invariant-loop-2 g l = g.L.Listen.refuses l.listener → g.L.Listen.refuses l.fn.listener
