use Rattle.std.proofs.Common.{◌∙◌, ap, arith}
use Rattle.std.specs.Int.{w16, to_be_bytes}
use Rattle.snap_frame.proofs.BigEndian.{two_again, front_is}
use Rattle.snap_frame.proofs.numbers.first_u16.Goals as goal

pub returns : goal.returns
returns c = front_is 2 c.args.bytes.now _ (ap (to_be_bytes w16) c.read_u16.ensures
    ∙ two_again c.args.bytes.now (λ i. omega (arith, c.type_inv.bytes i)) c.requires)
