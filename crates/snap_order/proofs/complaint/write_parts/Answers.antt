use Rattle.std.proofs.Common.{List, ℕ, ◌++◌, codes, subst}
use Rattle.std.{specs.Io.KnownBytes.Appends, proofs.lemmas.Result.on_err_weaker}
use Rattle.snap_order.specs.Streams.{AppendsLess}
use Rattle.snap_order.proofs.Lines.{less_more, less_behind, on_failed}
use Rattle.snap_order.proofs.complaint.write_parts.Goals as goal

pub returns-in_err-write_whole-clause-cut : goal.returns-in_err-write_whole-clause-cut
returns-in_err-write_whole-clause-cut g c =
    let old = g.E.Write.contents c.args.errors.now in
    let new = g.E.Write.contents c.write_whole.new.writer in
    on_failed c.from_residual.result _
    (less_more old new (codes "snapd: ") (c.args.text.now ++ codes "\n")
    c.in_err-write_whole.ensures.cut)

pub returns-in_err-write_whole-2-clause-cut : goal.returns-in_err-write_whole-2-clause-cut
returns-in_err-write_whole-2-clause-cut g c =
    let old = g.E.Write.contents c.args.errors.now in
    let mid = g.E.Write.contents c.write_whole.new.writer in
    let new = g.E.Write.contents c.write_whole-2.new.writer in
    let text = c.args.text.now in
    on_failed c.from_residual-in_err-write_whole-2.result _
    (less_behind old mid new (codes "snapd: ") (text ++ codes "\n")
    c.in_ok-write_whole.ensures.whole
    (less_more mid new text (codes "\n")
    (subst (λ (l : List ℕ). AppendsLess mid new l) c.as_bytes.ensures.value
    c.in_err-write_whole-2.ensures.cut)))

pub returns-clause-cut : goal.returns-clause-cut
returns-clause-cut g c =
    let old = g.E.Write.contents c.args.errors.now in
    let first = g.E.Write.contents c.write_whole.new.writer in
    let second = g.E.Write.contents c.write_whole-2.new.writer in
    let new = g.E.Write.contents c.write_whole-3.new.writer in
    let text = c.args.text.now in
    on_err_weaker c.write_whole-3.result
    (λ cut. less_behind old first new (codes "snapd: ") (text ++ codes "\n")
    c.in_ok-write_whole.ensures.whole
    (less_behind first second new text (codes "\n")
    (subst (λ (l : List ℕ). Appends first second l) c.as_bytes.ensures.value
    c.in_ok-write_whole-2.ensures.whole) cut))
    c.write_whole-3.ensures.cut
