use Rattle.std.proofs.Common.{◌≡◌, codes, ◌∷◌, sym, ◌∙◌, ap}
use Rattle.snap_script.{specs.Words.parts_at, proofs.Operands.fill_after, proofs.Operands.where_none}
use Rattle.snap_script.proofs.words.fill.Goals as goal

pub returns : goal.returns
returns c =
    let rest = c.in-Some-rest.rest.now in
    let parts = rw c.in-Some-rest.is at c.cut.ensures in
    let kind : codes "at" ≡ c.cut.result.0.now = c.is-2.ensures.0 c.if-not-is.false in
    fill_after c.args.word.now rest (parts ∙ ap (λ k. k ∷ parts_at 58 rest) (sym kind))
    (λ e. let t = c.is.ensures.1 e in let f = c.if-is.false in cc)
    (where_none _ c.one_byte.result c.one_byte.ensures c.in_default.not-Some) c.fill_at.result c.fill_at.ensures
