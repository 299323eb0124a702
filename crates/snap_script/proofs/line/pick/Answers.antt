use Rattle.snap_script.proofs.Operands.{second_same}
use Rattle.snap_script.proofs.line.pick.Goals as goal

pub returns-in_err-mask : goal.returns-in_err-mask
returns-in_err-mask c = rw c.from_residual-in_err-mask.ensures (λ e form.
    c.in_err-mask.ensures form.3 (rw (second_same form.5 c.in_ok-scanner.ensures) at form.7))
