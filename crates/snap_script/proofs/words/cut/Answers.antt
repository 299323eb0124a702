use Rattle.std.proofs.Common.{ℕ, ◌≡◌, ◌<◌, ◌+◌, Some, None, ◌∷◌, length, take, drop, ◌-◌, length-drop, arith}
use Rattle.std.{proofs.lemmas.List.take_all, proofs.lemmas.List.length-take-le, specs.Prelude.◌==◌}
use Rattle.snap_script.{specs.Words.parts_at, proofs.Parts.splits_at_place, proofs.words.cut.Goals.In-Some}
use Rattle.snap_script.proofs.words.cut.Goals as goal

place : (c : In-Some) → (c.in-Some.i < length c.args.text.now)
    × (parts_at c.args.at c.args.text.now ≡ take c.in-Some.i c.args.text.now
    ∷ parts_at c.args.at (drop (c.in-Some.i + 1) c.args.text.now))
place c = splits_at_place (λ b. b == c.args.at) c.args.text.now (Some c.in-Some.i) c.in-Some.ensures

pub slice_bounds-result-end : goal.slice_bounds-result-end
slice_bounds-result-end c = let h = (place (goal.at.slice_bounds-result-end c).In-Some).0 in
    omega (arith, length-take-le {A = ℕ})

pub overflow_add-result : goal.overflow_add-result
overflow_add-result c = omega (arith, (place (goal.at.overflow_add-result c).In-Some).0)

pub slice_bounds-result-count : goal.slice_bounds-result-count
slice_bounds-result-count c = omega (arith, (place (goal.at.slice_bounds-result-count c).In-Some).0)

pub slice_bounds-result-start : goal.slice_bounds-result-start
slice_bounds-result-start c = omega (arith, (place (goal.at.slice_bounds-result-start c).In-Some).0)

pub returns-in-Some : goal.returns-in-Some
returns-in-Some c =
    let rest = drop (c.in-Some.i + 1) c.args.text.now in
    let whole : take (length c.args.text.now - (c.in-Some.i + 1)) rest ≡ rest =
    take_all _ rest (omega (arith, length-drop {A = ℕ})) in
    rw whole (place (goal.at.returns-in-Some c).In-Some).1

pub returns-in-None : goal.returns-in-None
returns-in-None c = splits_at_place (λ b. b == c.args.at) c.args.text.now None c.in-None.ensures
