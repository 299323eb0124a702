use Rattle.std.proofs.Common.{◌≡◌, Option, None, Some, ap, sym, ◌∙◌, arith, length, slice_get, refl}
use Rattle.std.proofs.lemmas.List.{length_push}
use Rattle.snap_history.proofs.Lists.{get-push}
use Rattle.snap_scan.specs.declared.segment_value.SegmentValue.{SegmentValue}
use Rattle.snap_memory.proofs.scan_cache.empty_cache.Goals as goal

abbrev IsNothing : Option SegmentValue → Type 0
IsNothing kept = (x : SegmentValue) → kept ≡ Some x → ⊥

pub loop-i-preserved : goal.loop-i-preserved
loop-i-preserved c =
    let inv = c.loop-i.invariant in
    let items = c.in_ok-push.ensures.items in
    record {
      long = ap length items ∙ omega (arith, length_push c.loop-i.cache.items None, inv.long);
      none = λ i x e. get-push IsNothing c.loop-i.cache.items None
          (λ j kept f y g. inv.none j y (f ∙ ap (λ v. Some v) g)) (λ y f. cc) i (Some x)
          (ap (λ l. slice_get l i) (sym items) ∙ e) x refl;
    }

pub returns-clause-none : goal.returns-clause-none
returns-clause-none c = λ seat i x e. absurd (c.loop-i.invariant.none i x e)
