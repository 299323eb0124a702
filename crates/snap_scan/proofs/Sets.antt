-- The segments of a set and their places: they ascend, each is named, and each named segment has a place.
use Rattle.std.proofs.Common.{◌≡◌, ℕ, zero, suc, ◌+◌, ◌-◌, ◌^◌, ◌<◌, ◌≤◌, inl, inr, List, [], ◌∷◌, ◌++◌, length, take}
use Rattle.std.proofs.Common.{None, Some, slice_get, slice_set, slice_index, refl, ap, sym, ◌∙◌, subst, arith, ◌==◌}
use Rattle.std.proofs.lemmas.Bool.{cases_eq, cases_lt, cases_order, eq-eqb, ne_eqb, cond-true, cond-false}
use Rattle.std.proofs.lemmas.List.{length_push, take_more_set}
use Rattle.std.proofs.lemmas.Nat.Bits.{bit_at_above, bit_at_ones, same_from_bits_below, bit_at-zero, bit_at-lt}
use Rattle.std.proofs.lemmas.Option.{slice_get_within, slice_get-get_or, same_Some, get_or_from_slice_get}
use Rattle.std.{specs.Int.bit_at, proofs.Math.Nat.pow-le-pow_right, proofs.lemmas.Nat.pow_pos}
use Rattle.snap_history.proofs.Lists.{get-push, get-append_left, get-append_last}
use Rattle.snap_scan.specs.Sets.{Names, named_below, named, size, IsAt}

-- the list of named segments below k + 1, if k is named and if it isn't
module _ (set k : ℕ) where
  abbrev below : List ℕ
  below = named_below set k

  pub with : Names set k → named_below set (suc k) ≡ below ++ k ∷ []
  unfolding named_below
  with is = cond-true (bit_at set k == 1) (below ++ k ∷ []) below (eq-eqb (bit_at set k) 1 is)

  pub without : (Names set k → ⊥) → named_below set (suc k) ≡ below
  unfolding named_below
  without un = grind (arith, cond-false, ne_eqb)

  pub more : (P : List ℕ → Type 0) → (Names set k → P (below ++ k ∷ [])) → ((Names set k → ⊥) → P below)
      → P (named_below set (suc k))
  more P does un = grind (arith, with, without)

pub is_named : (set k p j : ℕ) → slice_get (named_below set k) p ≡ Some j → (j < k) × Names set j
unfolding named_below
is_named set zero p j e = absurd (let none : None ≡ Some j = e in cc)
is_named set (suc k) p j e =
    more set k (λ l. (p j : ℕ) → slice_get l p ≡ Some j → (j < suc k) × Names set j)
    (λ is. get-push (λ v. (v < suc k) × Names set v) (below set k) k
    (λ i v f. (let old = is_named set k i v f in (omega (arith, old.0), old.1))) (omega arith, is))
    (λ un i v f. (let old = is_named set k i v f in (omega (arith, old.0), old.1))) p j e

pub has_place : (set k j : ℕ) → j < k → Names set j → (p : ℕ) × (slice_get (named_below set k) p ≡ Some j)
has_place set zero j l is = absurd (omega arith)
has_place set (suc k) j l is = more set k (λ xs. (p : ℕ) × (slice_get xs p ≡ Some j)) (λ last. elim (cases_eq j k) [
  | inl same ↦ (length (below set k), get-append_last (below set k) k ∙ ap (λ v. Some v) (sym same))
  | inr other ↦ (
      let old = has_place set k j (omega arith) is in
      (old.0, get-append_left (below set k) (k ∷ []) old.0 (slice_get_within (below set k) old.0 j old.1) ∙ old.1))
]) (λ un. elim (cases_eq j k) [
  | inl same ↦ absurd (un (subst (Names set) same is))
  | inr other ↦ has_place set k j (omega arith) is
])

-- a lower place has a smaller segment
pub ascends : (set k p q i j : ℕ) → slice_get (named_below set k) p ≡ Some i
    → slice_get (named_below set k) q ≡ Some j → p < q → i < j
unfolding named_below
ascends set zero p q i j e f l = absurd (let none : None ≡ Some i = e in cc)
ascends set (suc k) p q i j e f l =
    more set k (λ xs. slice_get xs p ≡ Some i → slice_get xs q ≡ Some j → i < j) (λ is e f. (
    let xs = below set k in
    let inside : q < length (xs ++ k ∷ []) = slice_get_within (xs ++ k ∷ []) q j f in
    let long : length (xs ++ k ∷ []) ≡ length xs + 1 = length_push xs k in
    let first : slice_get xs p ≡ Some i = sym (get-append_left xs (k ∷ []) p (omega arith)) ∙ e in
    elim (cases_lt q (length xs)) [
      | inl lt ↦ ascends set k p q i j first (sym (get-append_left xs (k ∷ []) q lt) ∙ f) l
      | inr ge ↦ (
          let at : q ≡ length xs = omega arith in
          omega (arith, same_Some k j (sym (get-append_last xs k) ∙ (rw at at f)), (is_named set k p i first).0))
    ]))
    (λ un e f. ascends set k p q i j e f l) e f

pub few_below : (set k : ℕ) → length (named_below set k) ≤ k
unfolding named_below
few_below set zero = omega arith
few_below set (suc k) =
    let old = few_below set k in
    more set k (λ xs. length xs ≤ suc k) (λ is. omega (arith, length_push (below set k) k)) (λ un. omega arith)

-- the list is 0, 1, .. up to k - 1
record IsUpTo (k : ℕ) (xs : List ℕ) : Type 0 where
  count : length xs ≡ k
  each : (p : ℕ) → p < k → slice_get xs p ≡ Some p

up_to_push : (k : ℕ) (xs : List ℕ) → IsUpTo k xs → IsUpTo (suc k) (xs ++ k ∷ [])
up_to_push k xs up = record {
  count = omega (arith, length_push xs k, up.count);
  each = λ p l. elim (cases_lt p k) [
    | inl lt ↦ get-append_left xs (k ∷ []) p (omega (arith, up.count)) ∙ up.each p lt
    | inr ge ↦ (let at : p ≡ k = omega arith in rw (at, ← up.count) (get-append_last xs (length xs)))
  ];
}

all_below : (n k : ℕ) → k ≤ n → IsUpTo k (named_below (2 ^ n - 1) k)
unfolding named_below
all_below n zero l = record { count = refl; each = λ p l. absurd (omega arith) }
all_below n (suc k) l = rw (with (2 ^ n - 1) k (bit_at_ones n k (omega arith)))
    (up_to_push k (named_below (2 ^ n - 1) k) (all_below n k (omega arith)))

up : (k : ℕ) → suc k ≡ k + 1
up k = omega arith

-- a list that gets the next named segment
pub listed_with : (set k n : ℕ) (xs : List ℕ) → take n xs ≡ named_below set k → n < length xs
    → Names set k → take (n + 1) (slice_set xs n k) ≡ named_below set (k + 1)
listed_with set k n xs e l is =
    take_more_set xs n k l ∙ ap (λ v. v ++ k ∷ []) e ∙ sym (with set k is) ∙ ap (named_below set) (up k)

pub listed_without : (set k n : ℕ) (xs : List ℕ) → take n xs ≡ named_below set k
    → (Names set k → ⊥) → take n xs ≡ named_below set (k + 1)
listed_without set k n xs e un = e ∙ sym (without set k un) ∙ ap (named_below set) (up k)

-- The places and segments of a whole set:
module _ (set : ℕ) where
  pub few : size set ≤ 16
  few = few_below set 16

  pub at_named : (p j : ℕ) → IsAt set p j → (j < 16) × Names set j
  at_named p j at = is_named set 16 p j at

  pub named_at : (j : ℕ) → j < 16 → Names set j → (p : ℕ) × IsAt set p j
  named_at j l is = has_place set 16 j l is

  pub at_once : (p q j : ℕ) → IsAt set p j → IsAt set q j → p ≡ q
  at_once p q j a b = grind (arith, cases_order, ascends)

  pub at_some : (p : ℕ) → p < size set → IsAt set p (slice_index (named set) p)
  at_some p l = slice_get-get_or (named set) p 0 l

  pub at_within : (p j : ℕ) → IsAt set p j → p < size set
  at_within p j at = slice_get_within (named set) p j at

  pub at_is : (p j : ℕ) → IsAt set p j → slice_index (named set) p ≡ j
  at_is p j at = get_or_from_slice_get (named set) p j 0 at

  -- a set below 2 ^ n names no segment from n on
  pub named_low : (n j : ℕ) → set < 2 ^ n → Names set j → j < n
  named_low n j l is = grind (arith, bit_at_above)

  pub at_below : (n p j : ℕ) → set < 2 ^ n → IsAt set p j → j < n
  at_below n p j l at = named_low n j l (at_named p j at).1

  -- a set other than 0 names a segment
  pub some : set < 2 ^ 16 → 0 < set → 0 < size set
  some small pos = elim (cases_lt 0 (size set)) [
    | inl lt ↦ lt
    | inr ge ↦ (
        let zero_is : set ≡ 0 = same_from_bits_below 16 set 0 small (omega arith)
        (λ i l. elim (cases_eq (bit_at set i) 1) [
          | inl is ↦ (let place = named_at i l is in absurd (omega (arith, at_within place.0 i place.1)))
          | inr ne ↦ omega (arith, bit_at-lt set i, bit_at-zero i)
        ]) in
        absurd (omega arith))
  ]

-- a set among n segments, at most 16, fits in 16 bits
below_most : (set n : ℕ) → n ≤ 16 → set < 2 ^ n → set < 2 ^ 16
below_most set n few among = grind (arith, pow-le-pow_right)

module _ (set n : ℕ) (few' : n ≤ 16) (among : set < 2 ^ n) where
  pub some_among : 0 < set → 0 < size set
  some_among = some set (below_most set n few' among)

  pub names_below : (j : ℕ) → Names set j → j < n
  names_below j is = named_low set n j among is

  -- so the named segments below n are all that it names
  all_named : (d : ℕ) → named_below set (n + d) ≡ named_below set n
  all_named zero = ap (named_below set) (let same : n + 0 ≡ n = omega arith in same)
  all_named (suc d) =
      let up : n + suc d ≡ suc (n + d) = omega arith in
      ap (named_below set) up
      ∙ without set (n + d) (λ is. absurd (omega (arith, names_below (n + d) is)))
      ∙ all_named d

  pub named_all : named_below set n ≡ named set
  named_all = sym (all_named (16 - n)) ∙ ap (named_below set) (let same : n + (16 - n) ≡ 16 = omega arith in same)

-- the set of all n segments has segment i at place i
module _ (n : ℕ) (most : n ≤ 16) where
  all_up_to : IsUpTo n (named (2 ^ n - 1))
  all_up_to = rw (named_all (2 ^ n - 1) n most (omega (arith, pow_pos n))) at (all_below n n (omega arith))

  pub all_size : size (2 ^ n - 1) ≡ n
  all_size = all_up_to.count

  pub all_at : (p : ℕ) → p < n → IsAt (2 ^ n - 1) p p
  all_at p l = all_up_to.each p l

-- a list with a property at each place, and one more entry with it
module _ {A : Type 0} (P : ℕ → A → Type 0) (set k : ℕ) (xs : List A) where
  abbrev IsListed : ℕ → List A → Type 0
  IsListed n l = (length l ≡ length (named_below set n))
      × ((p j : ℕ) → slice_get (named_below set n) p ≡ Some j → (x : A) × (slice_get l p ≡ Some x) × P j x)

  pub list_named : Names set k → (x : A) → P k x → IsListed k xs → IsListed (k + 1) (xs ++ x ∷ [])
  list_named is x px listed = rw (sym (up k), with set k is) (
    omega (arith, listed.0, length_push xs x, length_push (named_below set k) k),
    λ p j at. (
        let e = listed.0 in
        let long = length_push (named_below set k) k in
        let inside = slice_get_within (named_below set k ++ k ∷ []) p j at in
        elim (cases_lt p (length (named_below set k))) [
          | inl lt ↦ (
              let old = listed.1 p j (sym (get-append_left (named_below set k) (k ∷ []) p lt) ∙ at) in
              (old.0, get-append_left xs (x ∷ []) p (slice_get_within xs p old.0 old.1) ∙ old.1, old.2))
          | inr ge ↦ (
              let last : p ≡ length (named_below set k) = omega arith in
              let same : k ≡ j = same_Some k j (sym (get-append_last (named_below set k) k) ∙ (rw last at at)) in
              (x, ap (slice_get (xs ++ x ∷ [])) (last ∙ sym e) ∙ get-append_last xs x, rw same at px))
        ]),
  )

  pub list_unnamed : (Names set k → ⊥) → IsListed k xs → IsListed (k + 1) xs
  list_unnamed un listed = rw (sym (up k), without set k un) listed
