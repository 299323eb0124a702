use Rattle.std.proofs.Common.{rules, ◌<◌, length, refl, ap, sym, ◌∙◌, subst, arith}
use Rattle.snap_world.proofs.{Sweep.swept-more, Sweep.swept-all, Elements.same_read}
use Rattle.snap_world.specs.{declared.drive.Drive.Drive, declared.register.Register.Register}
use Rattle.snap_world.specs.{inside.Recovery.IsRecovered, inside.Recovery.found_value}
use Rattle.std.proofs.{Math.Logic.∥∥₁_elim, lemmas.Option.slice_get_read, lemmas.Option.same_Some, Props.props}
use Rattle.snap_world.proofs.node.restarts.recover_all.Goals as goal

pub found_value-requires : goal.found_value-requires
found_value-requires c = ∥∥₁_elim c.requires.readable (hlevel props) (λ readable. (search (rules, slice_get_read)))

pub loop-i-preserved : goal.loop-i-preserved
loop-i-preserved c =
    let ds = c.args.drives.now.items in
    let swept = c.loop-i.invariant in
    let low : c.loop-i.i < length ds = omega (arith, c.args.registers.now.ok.0, c.requires.size) in
    let d = c.index.result.now in
    let old = c.index_mut-register.result.now in
    let new : Register = record { number = d.found.number; value = c.set.new.self; view = old.view } in
    let same = same_read ds c.loop-i.i c.index-in-loop-i.result.now d low c.index-in-loop-i.ensures c.index.ensures in
    swept-more swept old new (omega (arith, c.args.registers.now.ok.0, swept.size)) c.index_mut-register.ensures.value
    (λ e there. subst (λ (z : Drive). IsRecovered z old new) (same_Some d e
    (sym (slice_get_read ds (length ds) c.loop-i.i d refl low c.index.ensures) ∙ there)) (record {
      number = refl;
      value = c.set.ensures ∙ c.found_value.ensures.value ∙ ap found_value same;
      view = refl;
    }))

pub returns : goal.returns
returns c =
    let swept = c.loop-i.invariant in swept-all swept (omega (arith, c.args.registers.now.ok.0, swept.size))
