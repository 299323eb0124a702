use Rattle.std.proofs.Common.{◌-◌, List, ℕ, codes, length, drop, nat_eq, IfSome, subst, sym, ap, ◌∙◌}
use Rattle.std.specs.{Cmp.Lexicographic.pointwise, Fmt.Cut.IsTextOrCut}
use Rattle.snap_order.specs.declared.complaint.TheConstants.{IN_PLACE}
use Rattle.snap_order.proofs.{Complaints.told_in_place, Lines.on_ok}
use Rattle.snap_order.proofs.complaint.complain.Goals as goal

pub returns-then-is_ok : goal.returns-then-is_ok
returns-then-is_ok g c =
    let known = g.T.Display.output c.args.text.now in
    let old = g.E.Write.contents c.args.errors.now in
    let new = g.E.Write.contents c.write_parts.new.errors in
    let text = c.as_str-text.result.now in
    let IsPut : List ℕ → Type 0 = λ t. IfSome known (λ bytes. IsTextOrCut IN_PLACE bytes t) in
    told_in_place known old new text c.ends_with-is_cut.result
    (subst IsPut (sym c.as_str-text.ensures.value) c.of-text.ensures.text)
    (c.ends_with-is_cut.ensures.value
    ∙ ap (λ (t : List ℕ). pointwise nat_eq (codes "...") (drop (length t - 3) t))
    c.as_bytes.ensures.value)
    (on_ok c.write_parts.result _ c.write_parts.ensures.whole
    (sym c.is_ok.ensures.value ∙ c.if-is_ok.true))
