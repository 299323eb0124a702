use Rattle.std.proofs.Common.{◌≡◌, All, take_all, subst, arith}
use Rattle.std.proofs.lemmas.List.Elements.{All-more}
use Rattle.snap_file_commands.proofs.loss.sign_of_loss.Goals as goal

pub loop-at-preserved : goal.loop-at-preserved
loop-at-preserved c =
    All-more (λ number. number ≡ 0) c.args.numbers.now c.loop-at.at 0 (omega (arith, c.loop-at-test.true))
    c.loop-at.invariant (omega (arith, c.if-number-gt0.false))

pub returns-clause-none : goal.returns-clause-none
returns-clause-none c = λ _ _.
    subst (All (λ number. number ≡ 0)) (take_all c.loop-at.at c.args.numbers.now (omega (arith, c.loop-at-test.false)))
    c.loop-at.invariant
