use Rattle.std.proofs.Common.{ℕ, Bool, ap, sym, ◌∙◌, subst, length, refl, arith}
use Rattle.std.proofs.{lemmas.Option.slice_get_read, lemmas.Option.same_Some}
use Rattle.snap_world.proofs.{Sweep.swept-more, Sweep.swept-all}
use Rattle.snap_world.specs.{inside.Drives.IsCrashed, declared.drive.Drive.Drive}
use Rattle.snap_world.proofs.drive.crash_all.Goals as goal

pub loop-i-preserved : goal.loop-i-preserved
loop-i-preserved c =
    let fills = c.args.fills.now.items in
    let swept = c.loop-i.invariant in
    let d = c.index_mut.result.now in
    let e : Drive = record d { image = c.crash.new.self } in
    let left = c.crash.ensures.left in
    let places = λ (p : ℕ). ap (λ (f : ℕ → Bool). f p) c.crash.ensures.places in
    let there = slice_get_read fills (length fills) c.loop-i.i c.index.result.now refl
    (omega (arith, c.args.drives.now.ok.0, c.requires)) c.index.ensures in
    swept-more swept d e (omega (arith, c.args.drives.now.ok.0, swept.size)) c.index_mut.ensures.value
    (λ fill same. subst (λ f. IsCrashed f d e) (same_Some _ _ (sym there ∙ same)) (record {
      refilled = record { left = record { left = left; places = places }; filled = c.crash.ensures.filled };
      persist = refl;
    }))

pub returns : goal.returns
returns c =
    let swept = c.loop-i.invariant in swept-all swept (omega (arith, c.args.drives.now.ok.0, swept.size))
