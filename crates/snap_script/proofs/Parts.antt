-- The parts of a text.
use Rattle.std.proofs.Common.{◌≡◌, ℕ, ◌+◌, ◌<◌, Bool, true, false, cond, Option, Some, None, List, [], ◌∷◌, length, ap}
use Rattle.std.proofs.Common.{take, drop, refl, arith, MatchOption, ◌==◌}
use Rattle.std.specs.List.{position_from, position_or_len, slice_split}
use Rattle.std.proofs.{lemmas.Bool.ltb-true, lemmas.Bool.ltb-false, lemmas.List.Splits.length-slice_split, Math.Dec.ltb}
use Rattle.std.proofs.lemmas.List.Splits.{slice_split_first, slice_split_none}
use Rattle.std.proofs.lemmas.{Iterator.Adapters.position_from-zero, List.Sums.fails_before_first}
use Rattle.snap_script.specs.Words.{parts_at}

module _ (p : ℕ → Bool) (xs : List ℕ) where
  abbrev SplitsAt : Option ℕ → Type 0
  SplitsAt r = MatchOption r (slice_split p xs ≡ xs ∷ []) (λ k. (k < length xs)
      × (slice_split p xs ≡ take k xs ∷ slice_split p (drop (k + 1) xs)))

  splits_by : (b : Bool) → ltb (position_or_len p xs) (length xs) ≡ b
      → SplitsAt (cond b (Some (position_or_len p xs)) None)
  splits_by true within =
      let inside = ltb-true (position_or_len p xs) (length xs) within in
      (inside, slice_split_first p xs 0 inside)
  splits_by false beyond =
      let all = ltb-false (position_or_len p xs) (length xs) beyond in
      slice_split_none p xs (λ k d inside. fails_before_first p xs k d (omega (arith, inside, all)))

  -- the first part ends at the index that `position` finds
  pub splits_at_place : (r : Option ℕ) → r ≡ position_from p 0 xs → SplitsAt r
  splits_at_place r e = rw (e, ← position_from-zero p xs) (splits_by (ltb (position_or_len p xs) (length xs)) refl)

-- there is always a part
pub parts-ne-nil : (c : ℕ) (text : List ℕ) → parts_at c text ≡ [] → ⊥
parts-ne-nil c text e = omega (arith, length-slice_split (λ b. b == c) text, ap length e)

pub two-ne-one : (c : ℕ) (text a x : List ℕ) → x ∷ parts_at c text ≡ a ∷ [] → ⊥
two-ne-one c text a x e = parts-ne-nil c text (cc)
