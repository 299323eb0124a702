use Rattle.std.proofs.Common.{◌∙◌, ◌<◌, arith, length, refl}
use Rattle.std.proofs.{Math.Logic.∥∥₁_elim, Props.props}
use Rattle.snap_world.proofs.Sweep.{swept-next, swept-more, swept-all}
use Rattle.snap_world.specs.{declared.drive.Drive.Drive}
use Rattle.snap_world.proofs.drive.resume_all.Goals as goal

pub overflow_add-next : goal.overflow_add-next
overflow_add-next c = ∥∥₁_elim c.requires (hlevel props) (λ readable. (
    let d = c.index_mut-drive.result.now in
    let swept = c.loop-i.invariant in
    let low : c.loop-i.i < length c.loop-i.drives.items = omega (arith, c.args.drives.now.ok.0, swept.size) in
    let is = readable c.loop-i.i d (swept-next swept d low c.index_mut-drive.ensures.value) in
    omega (arith, is.number)))

pub loop-i-preserved : goal.loop-i-preserved
loop-i-preserved c =
    let swept = c.loop-i.invariant in
    let d = c.index_mut-drive.result.now in
    let e : Drive = record d { persist = c.begin-drive.result } in
    swept-more swept d e (omega (arith, c.args.drives.now.ok.0, swept.size)) c.index_mut-drive.ensures.value (record {
      image = refl;
      slot = c.begin-drive.ensures.slot ∙ c.slot_of.ensures;
      stage = c.begin-drive.ensures.stage;
      calls = c.begin-drive.ensures.calls;
    })

pub returns : goal.returns
returns c =
    let swept = c.loop-i.invariant in swept-all swept (omega (arith, c.args.drives.now.ok.0, swept.size))
