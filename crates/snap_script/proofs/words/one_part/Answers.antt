use Rattle.std.proofs.Common.{sym, ◌∙◌}
use Rattle.snap_script.proofs.Parts.{two-ne-one}
use Rattle.snap_script.proofs.words.one_part.Goals as goal

pub returns-in-Some : goal.returns-in-Some
returns-in-Some c = λ a e. two-ne-one c.args.at c.in-Some.field-0.now a _ (sym (rw c.in-Some.is at c.cut.ensures) ∙ e)
