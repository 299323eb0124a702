use Rattle.std.proofs.Common.{◌∙◌, ap, arith}
use Rattle.std.specs.Int.{w32, to_be_bytes}
use Rattle.snap_frame.proofs.BigEndian.{four_again, front_is}
use Rattle.snap_frame.proofs.numbers.first_u32.Goals as goal

pub returns : goal.returns
returns c = front_is 4 c.args.bytes.now _ (ap (to_be_bytes w32) c.read_u32.ensures
    ∙ four_again c.args.bytes.now (λ i. omega (arith, c.type_inv.bytes i)) c.requires)
