use Rattle.std.proofs.Common.{rules, length, ◌-◌, subst}
use Rattle.std.{specs.Io.KnownBytes.Consumes, proofs.KnownBytes.Consumes-trans}
use Rattle.snap_order.proofs.Known.{take_put}
use Rattle.snap_order.proofs.whole.read_up_to.Goals as goal

pub loop-len-preserved : goal.loop-len-preserved
loop-len-preserved g c =
    let len = c.loop-len.len in
    let buffer = c.loop-len.buffer in
    let put = take_put len (length buffer - len) c.in-Ok.n buffer c.read.new.buf
    c.loop-len.invariant.0 c.in-Ok.ensures.bound.0 in
    (search rules, subst (Consumes _ _) put (Consumes-trans _ _ _ _ _ c.loop-len.invariant.1 c.in-Ok.ensures.bytes.0))
