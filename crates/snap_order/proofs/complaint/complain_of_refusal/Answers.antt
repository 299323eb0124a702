use Rattle.std.proofs.Common.{List, ℕ, subst, ◌∙◌}
use Rattle.snap_order.specs.Streams.{AppendsLess}
use Rattle.snap_order.proofs.complaint.complain_of_refusal.Goals as goal

pub returns-in-Err-clause-cut : goal.returns-in-Err-clause-cut
returns-in-Err-clause-cut g c = λ told.
    let old = g.E.Write.contents c.args.errors.now in
    let new = g.E.Write.contents c.write_whole.new.writer in
    subst (λ (l : List ℕ). AppendsLess old new l) (c.as_bytes.ensures.value ∙ c.line_of.ensures)
    c.in-Err.ensures.cut
