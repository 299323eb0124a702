use Rattle.std.proofs.Common.{ℕ, ap, sym, ◌∙◌, arith, length, get_or, List}
use Rattle.std.proofs.lemmas.List.{length-replicate, get_or-replicate}
use Rattle.snap_register.{specs.Rule.buffers, specs.Steps.view_of, proofs.Views.few_buffers}
use Rattle.snap_register.specs.{declared.plan.BufferPool.BufferPool, declared.plan.Entry.Entry, History.count}
use Rattle.snap_register.proofs.seats.WriteSeat.of.Goals as goal

pub invariant_of-result : goal.invariant_of-result
invariant_of-result c =
    let v = view_of c.args.access in
    let d = c.requires.pool in
    let few = few_buffers c.args.access.sized in
    let none = ap (λ (h : List Entry). count c.args.segment h) c.requires.number.1 in
    record {
      role = c.requires.role.0;
      inside = c.requires.role.1;
      number_is = let n = c.requires.number.0 in omega arith;
      current_is = sym (ap (λ (x : BufferPool). x.current) d);
      current_inside = omega arith;
      found_pinned_is = ap (λ (x : BufferPool). x.found_pinned) d;
      counts = ap (λ (x : BufferPool). length x.counted) d ∙ length-replicate (buffers v.plan) 0;
      counted_are = λ b lb. get_or-replicate 34 b 0 0 (omega arith)
          ∙ sym (ap (λ (x : BufferPool). get_or x.counted b 0) d ∙ get_or-replicate (buffers v.plan) b 0 0 lb);
      draft_none = ap (λ (x : BufferPool). x.draft) d;
      wide_records = ap (λ (x : BufferPool). length x.records) d ∙ length-replicate (buffers v.plan) 0;
      filled_are = λ b lb any. absurd (omega (arith, any, get_or-replicate {A = ℕ} 34 b 0 0 (omega arith)));
    }
