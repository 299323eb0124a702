use Rattle.std.proofs.Common.{rules, ◌≡◌, ◌+◌, ◌<◌, [], ◌∷◌, ◌++◌, length, take, ap, sym, ◌∙◌, arith}
use Rattle.std.proofs.lemmas.List.{map_push, take_more, take-map}
use Rattle.std.proofs.{Props.props, Math.Logic.∥∥₁_elim, lemmas.Option.slice_get_read}
use Rattle.snap_world.proofs.drive.found_values.Goals as goal

pub found_value-requires : goal.found_value-requires
found_value-requires c = ∥∥₁_elim c.requires (hlevel props) (λ readable. (search (rules, slice_get_read)))

pub loop-i-preserved : goal.loop-i-preserved
loop-i-preserved c =
    let ds = c.args.drives.now.items in
    let i = c.loop-i.i in
    let d = c.index.result.now in
    let x = c.in_ok-to_vec.field-0 in
    let low : i < length ds = omega (arith, c.args.drives.now.ok.0) in
    let more : take i ds ++ d ∷ [] ≡ take (i + 1) ds = ap (λ z. take i ds ++ z ∷ []) c.index.ensures
    ∙ sym (take_more ds i d low) in search (rules, map_push, take-map)
