-- One more number appended to the list.
use Rattle.std.proofs.Common.{◌≡◌, ◌≢◌, ℕ, ◌+◌, ◌*◌, ◌<◌, ◌≤◌, ◌⊎◌, inl, inr, true, false, List, [], ◌∷◌, ◌++◌, length}
use Rattle.std.proofs.Common.{slice_index, ap, arith}
use Rattle.std.proofs.lemmas.List.{length_push}
use Rattle.snap_scan.specs.Stands.{IsUndecided, IsRising, AllLow, Same, IsChanged}
use Rattle.snap_scan.{specs.Looks.IsNoFall, proofs.Places.same_segment, proofs.Places.pushed}

module _ (n : ℕ) (L : List ℕ) (m j k : ℕ) (within : j < n) (place : length L ≡ m * n + j) where
  pub low_push : AllLow n L (length L) → ((j < length L) → k < slice_index L j + 2)
      → AllLow n (L ++ k ∷ []) (length (L ++ k ∷ []))
  low_push low small p i hi lt = grind (arith, pushed, low p i hi, same_segment n p i m j hi within)

  pub rising_push : IsRising n L → IsNoFall n L j k → IsRising n (L ++ k ∷ [])
  rising_push rising fall p i hi lt =
      grind (arith, pushed, rising p i hi, same_segment n (p + 1) i m j hi within, fall p)

  pub Same-old : (p t : ℕ) → t ≤ n → (p + 1) * n + t ≤ length L → Same n (L ++ k ∷ []) p t → Same n L p t
  Same-old p t tn h same i l = grind (arith, pushed, same i l)

  pub undecided_push : IsUndecided n L (length L) → ((j < length L) → k < slice_index L j + 2) → ((c : ℕ)
      → (c + 2) * n ≡ length L + 1 → Same n (L ++ k ∷ []) c n → ⊥) → IsUndecided n (L ++ k ∷ []) (length (L ++ k ∷ []))
  undecided_push u small fresh = grind (arith, low_push, length_push, Same-old)

  -- the earlier numbers still decide nothing
  pub undecided_before : IsUndecided n L (length L) → (b : ℕ) → length (L ++ k ∷ []) ≡ b + 1
      → IsUndecided n (L ++ k ∷ []) b
  undecided_before u b e = grind (arith, length_push, pushed, Same-old)

  -- equal so far, and equal with the new number
  pub same_push : IsChanged false n L m j → ((p : ℕ) → m ≡ p + 1 → slice_index L (p * n + j) ≡ k)
      → IsChanged false n (L ++ k ∷ []) m (j + 1)
  same_push was same = grind (arith, pushed)

  -- different so far, or different with the new number
  pub changed_push : IsChanged true n L m j ⊎ ((p : ℕ) → m ≡ p + 1 → slice_index L (p * n + j) ≢ k)
      → IsChanged true n (L ++ k ∷ []) m (j + 1)
  changed_push why = λ p e same.
      let f : m * n ≡ (p + 1) * n = ap (λ x. x * n) e in
      elim why [
        | inl was ↦ was p e (Same-old p j (omega arith) (omega arith) (λ i l. same i (omega arith)))
        | inr other ↦ other p e (grind (arith, pushed, same j))
      ]
