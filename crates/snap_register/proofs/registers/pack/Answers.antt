use Rattle.snap_register.proofs.Blocks.{packed_block}
use Rattle.snap_register.proofs.registers.pack.Goals as goal

pub returns-clause-block : goal.returns-clause-block
returns-clause-block c =
    let inv = c.loop-q.invariant in
    packed_block c.loop-q.words c.args.value.now _ c.args.number c.loop-q.q c.requires.bytes
    inv.long c.loop-q-test.false inv.number_is inv.first inv.whole inv.each
