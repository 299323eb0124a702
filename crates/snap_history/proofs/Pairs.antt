-- Two lists of equal length, with a fact that holds of the elements at each place.
use Rattle.std.proofs.Common.{◌≡◌, ◌≢◌, ℕ, zero, suc, ◌<◌, inl, inr, List, [], ◌∷◌, length, Some, slice_get, slice_set}
use Rattle.std.proofs.Common.{refl, ap, sym, ◌∙◌, subst, arith}
use Rattle.std.proofs.lemmas.Option.{slice_get_within, same_Some, get_or_from_slice_get}
use Rattle.std.proofs.lemmas.{List.length-set, List.set-get_or, Bool.cases_eq}
use Rattle.snap_history.{specs.Pairs.Pairs, proofs.Lists.get-set_same, proofs.Lists.get-set_other}

-- there is an element at each place of a list
pub element : {A : Type 0} (xs : List A) (i : ℕ) → i < length xs → (a : A) × (slice_get xs i ≡ Some a)
element [] i l = absurd (omega arith)
element (x ∷ xs) zero l = (x, refl)
element (x ∷ xs) (suc i) l = element xs i (omega arith)

pub partner : {A B : Type 0} (R : ℕ → A → B → Type 0) (xs : List A) (ys : List B) (i : ℕ) (a : A)
    → Pairs R xs ys → slice_get xs i ≡ Some a → (b : B) × (slice_get ys i ≡ Some b) × R i a b
partner R xs ys i a p e =
    let l : i < length xs = slice_get_within xs i a e in
    let s : length xs ≡ length ys = p.size in
    let y = element ys i (omega arith) in
    (y.0, y.1, p.each i a y.0 e y.1)

-- to write the element that is there changes nothing
set_same : {A : Type 0} (xs : List A) (i : ℕ) (x : A) → slice_get xs i ≡ Some x → slice_set xs i x ≡ xs
set_same xs i x at = ap (slice_set xs i) (sym (get_or_from_slice_get xs i x x at)) ∙ set-get_or xs i x

-- one pair is replaced, and the fact carries over at all other places
pub Pairs-set : {A B : Type 0} (R Q : ℕ → A → B
    → Type 0) (xs : List A) (ys : List B) (i : ℕ) (a : A) (b : B) → i < length xs
    → ((j : ℕ) (c : A) (d : B) → j ≢ i → R j c d → Q j c d) → Q i a b → Pairs R xs ys
    → Pairs Q (slice_set xs i a) (slice_set ys i b)
Pairs-set R Q xs ys i a b l others here p =
    let s : length xs ≡ length ys = p.size in
    record {
      size = length-set xs i a ∙ s ∙ sym (length-set ys i b);
      each = λ j c d ec ed. elim (cases_eq j i) [
        | inl e ↦ (
            let ca : a ≡ c = same_Some a c (sym (get-set_same xs i a l)
            ∙ ap (slice_get (slice_set xs i a)) (sym e) ∙ ec) in
            let db : b ≡ d = same_Some b d (sym (get-set_same ys i b (omega arith))
            ∙ ap (slice_get (slice_set ys i b)) (sym e) ∙ ed) in
            subst (λ k. Q k c d) (sym e) (subst (Q i c) db (subst (λ z. Q i z b) ca here)))
        | inr ne ↦ others j c d ne (p.each j c d (sym (get-set_other xs i j a ne)
            ∙ ec) (sym (get-set_other ys i j b ne) ∙ ed))
      ];
    }

pub Pairs-map : {A B : Type 0} (R Q : ℕ → A → B → Type 0) (xs : List A) (ys : List B)
    → ((j : ℕ) (c : A) (d : B) → R j c d → Q j c d) → Pairs R xs ys → Pairs Q xs ys
Pairs-map R Q xs ys f p = record {
  size = p.size;
  each =
      λ j c d ec ed. f j c d (p.each j c d ec ed);
}

-- an element of the second list alone is replaced
pub Pairs-right : {A B : Type 0} (R : ℕ → A → B → Type 0) (xs : List A) (ys : List B) (i : ℕ) (b : B) → i < length ys
    → ((a : A) → slice_get xs i ≡ Some a → R i a b) → Pairs R xs ys → Pairs R xs (slice_set ys i b)
Pairs-right R xs ys i b l here p =
    let s : length xs ≡ length ys = p.size in
    let inside : i < length xs = omega arith in
    let there = element xs i inside in
    subst (λ v. Pairs R v (slice_set ys i b)) (set_same xs i there.0 there.1)
    (Pairs-set R R xs ys i there.0 b inside (λ j c d ne r. r) (here there.0 there.1) p)
