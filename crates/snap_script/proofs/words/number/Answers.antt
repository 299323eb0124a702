use Rattle.std.proofs.Common.{◌<◌, arith}
use Rattle.snap_script.proofs.Operands.{digits_fit}
use Rattle.snap_script.proofs.words.number.Goals as goal

pub overflow_mul-value : goal.overflow_mul-value
overflow_mul-value c =
    let fits = digits_fit c.loop-byte.value 0 c.loop-byte.byte-index c.loop-byte.invariant.fits
    (omega arith) (omega arith) in
    omega (arith, fits)

pub overflow_add-value : goal.overflow_add-value
overflow_add-value c =
    let small : c.in_ok-digit.digit < 10 =
    omega (arith, c.in_ok-digit.ensures.value.0, c.in_ok-digit.ensures.value.1) in
    let fits = digits_fit c.loop-byte.value c.in_ok-digit.digit c.loop-byte.byte-index
    c.loop-byte.invariant.fits (omega arith) small in
    omega (arith, fits, c.from-in-loop-byte.ensures)
