use Rattle.std.proofs.Common.{refl}
use Rattle.snap_script.proofs.Operands.{second_same}
use Rattle.snap_script.proofs.line.begin.Goals as goal

pub returns-in-Some-2 : goal.returns-in-Some-2
returns-in-Some-2 c =
    (_, _, _, _, refl, c.in-Some.ensures, c.in-Some-number.ensures, rw c.in-Some-2.is at c.in_ok-value.ensures)

pub returns-in-None : goal.returns-in-None
returns-in-None c = λ e form. (rw c.in-None.is at c.in_ok-value.ensures) form.3.items
    (rw (second_same form.5 c.in-Some.ensures) at form.7)
