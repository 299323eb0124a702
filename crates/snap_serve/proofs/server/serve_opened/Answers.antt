use Rattle.snap_frame.specs.declared.request.Request.TheVariants.{Update, Scan, Status, Part}
use Rattle.snap_serve.specs.Serve.{addresses_of, site_at}
use Rattle.snap_serve.proofs.Memories.{writers_of, scanners_of, serves_first}
use Rattle.snap_serve.proofs.Written.{IsListening, ended_early, listen_failed, listening, report_failed, served}
use Rattle.snap_serve.proofs.Written.{served_failed}
use Rattle.snap_serve.proofs.server.serve_opened.Goals as goal
use Rattle.snap_serve.proofs.server.serve_opened.Goals.{After-print_served}

pub returns-in-Err : goal.returns-in-Err
returns-in-Err g c = record { ends = report_failed _ _ _ _ _ c.in-Err.failure c.in-Err.ensures.failed }

pub returns-in-Err-listen : goal.returns-in-Err-listen
returns-in-Err-listen g c = record {
  ends = listen_failed _ _ _ _ _ c.in-Err-listen.failure c.in-Ok.ensures.whole
      c.in-Err-listen.ensures.failed;
}

pub serve_memory-ended-requires-clause-writers : goal.serve_memory-ended-requires-clause-writers
serve_memory-ended-requires-clause-writers g c = λ κs within.
    rw (c.into_parts-writers.ensures.scanners, c.into_parts-writers.ensures.writers)
    (writers_of c.args.store.writers.items c.args.store.scanners.items c.requires.back)

pub serve_memory-ended-requires-clause-scanners : goal.serve_memory-ended-requires-clause-scanners
serve_memory-ended-requires-clause-scanners g c = λ κs within. rw c.into_parts-writers.ensures.scanners
    (scanners_of c.args.store.writers.items c.args.store.scanners.items c.requires.back)

pub serve_memory-ended-requires-clause-opened : goal.serve_memory-ended-requires-clause-opened
serve_memory-ended-requires-clause-opened g c = λ κs within. rw c.into_parts-writers.ensures.writers c.requires.opened

pub serve_memory-ended-requires-clause-requests : goal.serve_memory-ended-requires-clause-requests
serve_memory-ended-requires-clause-requests g c = λ κs within. elim [
  | Update i k v ↦ tt
  | Scan ↦ tt
  | Status ↦ tt
  | Part set ↦ tt
]

pub serve_memory-ended-requires-clause-memory : goal.serve_memory-ended-requires-clause-memory
serve_memory-ended-requires-clause-memory g c = λ κs within. rw c.into_parts-writers.ensures.scanners
    (serves_first g.B.Listener.Listen.may_serve c.args.store.scanners.items c.requires.back.some_scanner
    c.requires.memory)

pub serve_memory-ended-requires-clause-metrics : goal.serve_memory-ended-requires-clause-metrics
serve_memory-ended-requires-clause-metrics g c = λ κs within. rw c.into_parts-writers.ensures.scanners
    c.requires.metrics

pub serve_memory-ended-requires-clause-note : goal.serve_memory-ended-requires-clause-note
serve_memory-ended-requires-clause-note g c = λ κs within. c.requires.note

-- it printed that it listens, and served
listens : (g : _) (c : After-print_served g)
    → IsListening (site_at g.B.Bind g.B.Listener.LocalAddress g.B.Listener.Listen
    c.args.environment.bind.now (addresses_of c.args.order.now)) c.in-Ok-listen.listening.0
    c.args.report.now (g.W.Write.contents c.args.writer.now)
    (g.W.Write.contents c.serve_memory-ended.new.to)
listens g c = listening _ _ _ c.args.report.now _ (g.W.Write.contents c.print_report.new.writer) _
    c.in-Ok.ensures.whole c.in-Ok-listen.ensures.bound c.in-Ok-ended.ensures.announced

pub returns-in-Ok-print_served : goal.returns-in-Ok-print_served
returns-in-Ok-print_served g c = record {
  ends = served _ _ _ _ _ _ (listens g (goal.at.returns-in-Ok-print_served g c).After-print_served)
      c.in-Ok-ended.ensures.asked c.in-Ok-ended.ensures.deals
      c.in-Ok-print_served.ensures.whole;
}

pub returns-in-Err-print_served : goal.returns-in-Err-print_served
returns-in-Err-print_served g c = record {
  ends = served_failed _ _ _ _ _ _ (listens g (goal.at.returns-in-Err-print_served g c).After-print_served)
      c.in-Ok-ended.ensures.asked c.in-Ok-ended.ensures.deals
      c.in-Err-print_served.failure c.in-Err-print_served.ensures.failed;
}

pub returns-in-Err-ended : goal.returns-in-Err-ended
returns-in-Err-ended g c = record {
  ends = rw c.failure_of.ensures (ended_early g.W.Write.contents _ c.args.order.now.connections
      c.args.report.now _ c.print_report.new.writer c.serve_memory-ended.new.to
      c.in-Ok-listen.listening.0 _ c.in-Ok.ensures.whole c.in-Ok-listen.ensures.bound
      c.in-Err-ended.fault c.in-Err-ended.ensures.announced c.in-Err-ended.ensures.deaf);
}
