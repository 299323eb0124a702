use Rattle.std.proofs.Common.{take, sym, ap, ◌∙◌}
use Rattle.snap_history.proofs.Beginnings.{beginning-self}
use Rattle.snap_register.specs.Seat.{Known, value_in}
use Rattle.snap_memory.{proofs.ScanAnswer.value_told, proofs.Kept.fits_grown}
use Rattle.snap_memory.proofs.scanner.Scanner.read_one.Goals as goal

pub invariant_of-self : goal.invariant_of-self
invariant_of-self c =
    rw c.value-length.ensures.same (fits_grown c.self.inside.seat c.look-number.new.self c.self.inside.cache
    c.look-number.ensures.seen c.self.invariant)

pub returns-clause-value : goal.returns-clause-value
returns-clause-value c =
    let b = c.look-number.new.self in
    value_told b c.args.j c.look-number.result (take c.value-length.result c.value-length.new.out) b.seen
    c.value-length.ensures.value c.look-number.ensures.looked.here (beginning-self b.seen) c.look-number.ensures.number
    ∙ ap (λ (z : Known). value_in z z.seen c.args.j) (sym c.value-length.ensures.same)
