use Rattle.std.proofs.lemmas.Grind.{common_steps}
use Rattle.std.proofs.Common.{ℕ, ◌+◌, length, ap, ◌∙◌, arith}
use Rattle.std.proofs.lemmas.List.{length_push}
use Rattle.snap_frame.specs.{Messages.IsStatus, declared.entries.SegmentStatus.SegmentStatus}
use Rattle.snap_service.{specs.Counted.NodeState, proofs.Lines.all_more}
use Rattle.snap_service.proofs.shared.Shared.list_statuses.Goals as goal

pub loop-lock-preserved : goal.loop-lock-preserved
loop-lock-preserved g c =
    let s : SegmentStatus = c.status.result in
    let inv = c.loop-lock.invariant in
    record {
      count = ap length c.in_ok-push.ensures.items ∙ length_push _ s ∙ ap (λ (n : ℕ). n + 1) inv.count;
      limits = all_more IsStatus _ _ s c.in_ok-push.ensures.items inv.limits c.status.ensures.limits;
      scanner = ap (λ (a : NodeState). a.scanner) c.status.ensures.counts ∙ inv.scanner;
      updates = ap (λ (a : NodeState). a.updates) c.status.ensures.counts ∙ inv.updates;
    }

pub returns-clause-limits : goal.returns-clause-limits
returns-clause-limits g c = grind (arith, common_steps)
