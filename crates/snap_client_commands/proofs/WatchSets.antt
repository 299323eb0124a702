-- A set with one more segment.
use Rattle.std.proofs.Common.{◌≡◌, ◌↔◌, ◌∙◌, ℕ, zero, suc, ◌*◌, ◌%◌, ◌^◌, ◌<◌, List, [], ◌∷◌, ◌++◌, Contains, bit_or}
use Rattle.std.proofs.Common.{arith, inl, inr, refl, subst, sym, w16}
use Rattle.std.proofs.lemmas.List.Elements.{Contains-append_cases, Contains-append_left, Contains-append_right}
use Rattle.std.proofs.lemmas.Nat.Bits.{bit_at-zero, bit_at_set_other, bit_at_set_same}
use Rattle.std.{specs.Int.bit_at, proofs.lemmas.Bool.cases_eq}
use Rattle.snap_frame.specs.Sets.{Names}

-- the bits with that of segment s added
abbrev pub with : (bits s : ℕ) → ℕ
with bits s = bit_or bits (1 * 2 ^ s % 2 ^ 16)

-- the list with s at its end contains s
last_one : (xs : List ℕ) (s : ℕ) → Contains (xs ++ s ∷ []) s
last_one xs s = Contains-append_right xs (s ∷ []) s (0, omega arith, refl)

-- a list of one element contains only that
only_one : (s k : ℕ) → Contains (s ∷ []) k → k ≡ s
only_one s k (zero, below, is) = sym is
only_one s k (suc i, below, is) = absurd (omega arith)

-- the set that names the segments of a list, with one more
pub names_more : (bits s : ℕ) (xs : List ℕ) → s < 16 → ((k : ℕ) → Names bits k ↔ Contains xs k)
    → (k : ℕ) → Names (with bits s) k ↔ Contains (xs ++ s ∷ []) k
names_more bits s xs small before k =
    elim (cases_eq k s) [
      | inl same ↦ (
        λ named. subst (Contains (xs ++ s ∷ [])) (sym same) (last_one xs s),
        λ held. subst (Names (with bits s)) (sym same) (bit_at_set_same w16 bits s small),
      )
      | inr other ↦ (
        λ named. Contains-append_left xs (s ∷ []) k
            ((before k).0 (sym (bit_at_set_other w16 bits s small k other) ∙ named)),
        λ held. elim (Contains-append_cases xs (s ∷ []) k held) [
          | inl there ↦ bit_at_set_other w16 bits s small k other ∙ (before k).1 there
          | inr here ↦ absurd (other (only_one s k here))
        ],
      )
    ]

-- such a set isn't empty
pub some_named : (bits s : ℕ) → s < 16 → 0 < with bits s
some_named bits s small =
    elim (cases_eq (with bits s) 0) [
      | inl none ↦
          let one : bit_at 0 s ≡ 1 =
          subst (λ (n : ℕ). bit_at n s ≡ 1) none (bit_at_set_same w16 bits s small) in
          let bad : 0 ≡ 1 = sym (bit_at-zero s) ∙ one in omega arith
      | inr some ↦ omega arith
    ]
