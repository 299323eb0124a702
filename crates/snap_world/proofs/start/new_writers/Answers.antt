use Rattle.std.proofs.Common.{◌≡◌, ◌+◌, length, Some, slice_get, refl, ap, ◌∙◌, subst}
use Rattle.std.proofs.{lemmas.List.length_push}
use Rattle.snap_world.specs.{inside.Fresh.IsFreshWriter}
use Rattle.snap_history.proofs.{Lists.get-push}
use Rattle.snap_world.proofs.start.new_writers.Goals as goal

pub loop-i-preserved : goal.loop-i-preserved
loop-i-preserved c = record {
  count = ap length c.in_ok-push.ensures.items ∙ length_push c.loop-i.writers.items _
      ∙ ap (λ k. k + 1) c.loop-i.invariant.count;
  each = λ i x e. get-push (IsFreshWriter c.args.segments) c.loop-i.writers.items _
      c.loop-i.invariant.each (record { phase = refl; size = c.in_ok-new_collector.ensures }) i x
      (subst (λ v. slice_get v i ≡ Some x) c.in_ok-push.ensures.items e);
}
