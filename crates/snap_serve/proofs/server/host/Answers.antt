use Rattle.std.proofs.Common.{◌≡◌, ℕ, ◌+◌, ◌≤◌, ◌∙◌, Bool, true, false, Option, Some, None, Err, arith, refl}
use Rattle.std.specs.Prelude.{is_some, min, if◌then◌else◌}
use Rattle.std.proofs.{KnownBytes.Keeps-refl, lemmas.Bool.Decides.nat_tests}
use Rattle.snap_history.specs.declared.limits.TheConstants.{MAX_SCANNERS}
use Rattle.snap_serve.specs.{declared.fault.HostFault.TheVariants.Refused, Scanners.HasMetrics}
use Rattle.snap_serve.specs.Serve.{EndsHost, addresses_of, site_at}
use Rattle.snap_serve.proofs.{Memories.as_opened, Memories.may_serve, Ends.ends_opened, Ends.reported}
use Rattle.snap_serve.proofs.server.host.Goals.{After-serve_opened}
use Rattle.snap_serve.proofs.server.host.Goals as goal

-- the end after the opening
ended : (g : _) (c : After-serve_opened g) → EndsHost g.D.Disk c.args.devices.items
    (site_at g.B.Bind g.B.Listener.LocalAddress g.B.Listener.Listen c.args.environment.bind.now
    (addresses_of c.args.order.now)) c.args.order.now.connections (g.W.Write.contents c.args.writer.now)
    (g.W.Write.contents c.serve_opened.new.writer) c.serve_opened.result
ended g c =
    let is = reported g.D.Disk c.args.devices.items c.in-Ok.store.writers.items c.in-Ok.report
    c.in-Ok.ensures.opened c.in-Ok.ensures.report c.in-Ok.ensures.crash in
    ends_opened g.D.Disk c.args.devices.items _ c.args.order.now.connections
    c.in-Ok.report _ _ c.serve_opened.result is c.serve_opened.ensures.ends

pub returns-in-Ok-serve_opened : goal.returns-in-Ok-serve_opened
returns-in-Ok-serve_opened g c = record {
  ends = record {
    end = c.serve_opened.result;
    status = rw c.in-Ok-serve_opened.is refl;
    says = rw c.in-Ok-serve_opened.is (refl, Keeps-refl (g.E.Write.contents c.args.errors.now));
    ends = ended g (goal.at.returns-in-Ok-serve_opened g c).After-serve_opened;
  };
}

pub returns-in-Ok : goal.returns-in-Ok
returns-in-Ok g c = record {
  ends = record {
    end = c.serve_opened.result;
    status = rw c.in-Err-serve_opened.is c.report.ensures.status;
    says = rw c.in-Err-serve_opened.is c.report.ensures.says;
    ends = ended g (goal.at.returns-in-Ok g c).After-serve_opened;
  };
}

pub serve_opened-requires-clause-opened : goal.serve_opened-requires-clause-opened
serve_opened-requires-clause-opened g c = λ κs within. as_opened g.D.Disk c.args.devices.items
    c.in-Ok.store.writers.items c.in-Ok.store.scanners.items c.in-Ok.ensures.opened c.in-Ok.ensures.crash
    c.in-Ok.ensures.back

pub serve_opened-requires-clause-memory : goal.serve_opened-requires-clause-memory
serve_opened-requires-clause-memory g c = λ κs within. may_serve g.D.Disk g.B.Listener.Listen.may_serve
    c.args.devices.items c.in-Ok.store.writers.items c.in-Ok.store.scanners.items c.requires.memory
    c.in-Ok.ensures.crash c.in-Ok.ensures.back

-- there are metrics for each worker
have_metrics : {O : Type 0} (observer : Option O) (is_seen : Bool) (seats scanners workers : ℕ)
    → is_seen ≡ is_some observer → seats ≡ (if is_seen then min (scanners + 1) MAX_SCANNERS else scanners)
    → scanners ≤ workers → HasMetrics observer seats workers
have_metrics None true seats scanners workers seen is enough = absurd (cc seen)
have_metrics (Some x) true seats scanners workers seen is enough =
    (λ none. absurd (cc none), grind (arith, nat_tests))
have_metrics observer false seats scanners workers seen is enough = (λ _. omega arith, omega arith)

pub serve_opened-requires-clause-metrics : goal.serve_opened-requires-clause-metrics
serve_opened-requires-clause-metrics g c = λ κs within.
    have_metrics c.args.environment.observer c.is_some.result _ c.args.order.now.scanners _ c.is_some.ensures
    (c.in-Ok.ensures.scanners ∙ c.seats_of-seats.ensures.workers) c.requires.metrics

pub returns : goal.returns
returns g c = record {
  ends = record {
    end = Err (Refused c.in-Err.stopped.segment c.in-Err.stopped.refusal c.length_at-len.result);
    status = c.report-in-Err.ensures.status;
    says = c.report-in-Err.ensures.says;
    ends = (
      record {
        news = c.in-Err.stopped.devices.items;
        stopped = c.in-Err.ensures.stopped;
        kept = c.in-Err.ensures.kept_err;
        len_is = c.length_at-len.ensures;
      },
      Keeps-refl (g.W.Write.contents c.args.writer.now),
    );
  };
}
