use Rattle.std.proofs.Common.{◌≡◌, ◌∷◌, length, not, ap, sym, ◌∙◌, arith}
use Rattle.std.specs.Vec.Iter.{into_iter_items}
use Rattle.snap_server.proofs.Made.{made_more, made_all, pushed}
use Rattle.snap_server.proofs.threads.start_workers.Goals as goal

pub workers-preserved : goal.workers-preserved
workers-preserved g c =
    let next : into_iter_items c.workers.worker-iterator ≡ c.in-Some.worker ∷ into_iter_items
    c.next.new.self =
    c.in-Some.ensures.steps.0 in
    record {
      made = made_more _ c.workers.threads.items _ c.in-Ok.thread _ _ _ c.workers.invariant.made
          (pushed _ _ _ _ c.push.ensures.items (c.is_err.ensures.negation ∙ ap not c.if-is_err.false))
          (next ∙ ap (λ s. s ∷ into_iter_items c.next.new.self)
          (sym (ap (λ p. p.worker.value) c.in-Ok.ensures.ok ∙ c.of.ensures)));
      long = omega (arith, c.workers.invariant.long, c.in-Some.ensures.steps.1, ap length next);
    }

pub returns : goal.returns
returns g c =
    let all = made_all _ _ _ _ c.workers.invariant.made (sym c.workers.invariant.long ∙ c.in-None.ensures.steps.0) in
    λ yes. all
