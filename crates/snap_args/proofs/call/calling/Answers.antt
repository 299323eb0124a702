use Rattle.std.proofs.Common.{◌≢◌, ◌∙◌, arith, codes, inl, inr, subst, sym}
use Rattle.std.proofs.lemmas.Grind.{common_steps}
use Rattle.snap_order.specs.declared.order.OutputFormat.TheVariants.{Lines}
use Rattle.snap_args.proofs.Layouts.{not_lines, one_listing}
use Rattle.snap_args.specs.{Numbers.IsLayoutOf, Words.word_of}
use Rattle.snap_args.proofs.call.calling.Goals as goal

pub returns-then-not-lists_segments : goal.returns-then-not-lists_segments
returns-then-not-lists_segments c = λ memory call is.
    let of = word_of c.args.matches.now in
    let layout = c.in_ok-layout_of in
    let other : layout.field-0 ≢ Lines = grind (arith, common_steps) in
    let unlisted = sym c.lists_segments.ensures ∙ c.if-not-lists_segments.true in
    elim is.0.layout [
      | inl lines ↦ not_lines (of (codes "text")) (of (codes "json")) layout.field-0 other layout.ensures
          (subst (IsLayoutOf (of (codes "text")) (of (codes "json"))) lines is.1.layout)
      | inr listed ↦ (let asks = c.in_ok-question_of in
          one_listing _ _ _ asks.field-0 call.question asks.ensures.1 is.1.request unlisted listed)
    ]
