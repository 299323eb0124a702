use Rattle.std.proofs.Common.{refl}
use Rattle.snap_script.proofs.Crashes.{some_word, no_fills, read_on, read_whole}
use Rattle.snap_script.proofs.line.crash.Goals as goal

pub returns-in-None : goal.returns-in-None
returns-in-None c = λ e form.
    no_fills c.cut.result.1 c.cut.result.0.now c.loop-rest.invariant c.in-Some.is c.cut.ensures
    (rw c.in-None.is at c.in_ok-fill.ensures) form.0.items form.3

pub loop-rest-preserved : goal.loop-rest-preserved
loop-rest-preserved c =
    rw c.in_ok-push-in-Some-2.ensures.items
    (read_on c.cut.result.1 c.cut.result.0.now c.loop-rest.invariant c.in-Some.is c.cut.ensures
    c.in-Some-2.fill (rw c.in-Some-2.is at c.in_ok-fill.ensures))

pub returns : goal.returns
returns c = (_, refl, some_word c.args.operands.now, read_whole c.loop-rest.invariant c.in_default.not-Some)
