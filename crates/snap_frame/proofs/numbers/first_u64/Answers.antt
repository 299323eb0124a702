use Rattle.std.proofs.Common.{◌∙◌, ap, arith}
use Rattle.std.specs.Int.{w64, to_be_bytes}
use Rattle.snap_frame.proofs.BigEndian.{eight_again, front_is}
use Rattle.snap_frame.proofs.numbers.first_u64.Goals as goal

pub returns : goal.returns
returns c = front_is 8 c.args.bytes.now _ (ap (to_be_bytes w64) c.read_u64.ensures
    ∙ eight_again c.args.bytes.now (λ i. omega (arith, c.type_inv.bytes i)) c.requires)
