use Rattle.std.proofs.Common.{arith, length, ◌-◌, length-take, length-drop, drop, subst}
use Rattle.std.{specs.Io.KnownBytes.Appends, proofs.KnownBytes.Appends-trans}
use Rattle.snap_order.proofs.Known.{take_on}
use Rattle.snap_order.proofs.whole.write_whole.Goals as goal

pub loop-at-preserved : goal.loop-at-preserved
loop-at-preserved g c =
    let at = c.loop-at.at in
    let bytes = c.args.bytes.now in (
      omega (
        arith,
        c.in-Ok.ensures.bound,
        c.loop-at-test.true,
        length-take (length bytes - at) (drop at bytes),
        length-drop at bytes,
      ),
      subst (Appends _ _) (take_on at c.in-Ok.n bytes)
          (Appends-trans _ _ _ _ _ c.loop-at.invariant.1 c.in-Ok.ensures.bytes),
    )
