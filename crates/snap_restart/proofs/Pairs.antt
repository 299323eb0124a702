-- Two lists of equal length with a fact at each place: one list twice, composed, mapped or spliced.
use Rattle.std.proofs.Common.{◌≡◌, ℕ, zero, suc, ◌<◌, List, [], ◌∷◌, ◌++◌, length, map, slice_get, slice_set, Some}
use Rattle.std.proofs.Common.{refl, ap, sym, ◌∙◌, arith}
use Rattle.std.proofs.lemmas.{List.length-map, Option.slice_get_within, Option.same_Some}
use Rattle.snap_history.{proofs.Pairs.element, proofs.Pairs.partner, proofs.Pairs.Pairs-right, specs.Pairs.Pairs}
use Rattle.snap_restart.proofs.Removals.{get_map}

pub partner_of : {A B : Type 0} (R : ℕ → A → B → Type 0) (xs : List A) (ys : List B) (i : ℕ) (b : B)
    → Pairs R xs ys → slice_get ys i ≡ Some b → (a : A) × (slice_get xs i ≡ Some a) × R i a b
partner_of R xs ys i b p at =
    let a = element xs i (omega (arith, p.size, slice_get_within ys i b at)) in (a.0, a.1, p.each i a.0 b a.1 at)

pub pairs_self : {A : Type 0} (R : ℕ → A → A → Type 0) → ((i : ℕ) (a : A) → R i a a) → (xs : List A) → Pairs R xs xs
pairs_self R same xs = record { size = refl; each = λ i a b ea eb. rw (← same_Some a b (sym ea ∙ eb)) (same i a) }

pub pairs_more : {A : Type 0} (R : A → A → Type 0) → ((a b c : A) → R a b → R b c → R a c) → (xs ys zs : List A)
    → Pairs (λ _. R) xs ys → Pairs (λ _. R) ys zs → Pairs (λ _. R) xs zs
pairs_more R more xs ys zs p q = record {
  size = p.size ∙ q.size;
  each = λ i a c ea ec. (
      let b = partner (λ _. R) xs ys i a p ea in
      more a b.0 c b.2 (q.each i b.0 c b.1 ec));
}

-- the item at place k of the second list is replaced
pub pairs_moved : {A : Type 0} (R : A → A → Type 0) → ((a b c : A) → R a b → R b c → R a c) → (xs ys : List A) (k : ℕ)
    (y z : A) → slice_get ys k ≡ Some y → R y z → Pairs (λ _. R) xs ys → Pairs (λ _. R) xs (slice_set ys k z)
pairs_moved R more xs ys k y z at on p = Pairs-right (λ _. R) xs ys k z (slice_get_within ys k y at)
    (λ a ea. more a y z (p.each k a y ea at) on) p

pairs_behind : {A B : Type 0} (R : ℕ → A → B → Type 0) (x : A) (y : B) (xs : List A) (ys : List B)
    → Pairs R (x ∷ xs) (y ∷ ys) → Pairs (λ i. R (suc i)) xs ys
pairs_behind R x y xs ys p = grind arith

pub pairs_mapped : {A B : Type 0} (R : A → A → Type 0) (f : A → B) → ((a b : A) → R a b → f a ≡ f b) → (xs ys : List A)
    → Pairs (λ _. R) xs ys → map f xs ≡ map f ys
pairs_mapped R f same [] [] p = refl
pairs_mapped R f same (x ∷ xs) (y ∷ ys) p =
    cc (same x y (p.each 0 x y refl refl), pairs_mapped R f same xs ys (pairs_behind (λ _. R) x y xs ys p))
pairs_mapped R f same xs ys p = let s = p.size in absurd (omega arith)

-- the items of the second list are mapped
pub Pairs-mapped : {A B C : Type 0} (Q : ℕ → A → B → Type 0) (R : ℕ → A → C → Type 0) (f : B
    → C) (xs : List A) (ys : List B)
    → ((i : ℕ) (a : A) (b : B) → i < length xs → Q i a b → R i a (f b)) → Pairs Q xs ys → Pairs R xs (map f ys)
Pairs-mapped Q R f xs ys each p = record {
  size = p.size ∙ sym (length-map ys f);
  each = λ i a c ea ec.
      let b = partner Q xs ys i a p ea in
      rw (same_Some (f b.0) c (sym (get_map f ys i b.0 b.1) ∙ ec)) at (each i a b.0 (slice_get_within xs i a ea) b.2);
}

onto : {A B : Type 0} (R : ℕ → A → B → Type 0) (u : A) (v : B) (xs : List A) (ys : List B) → R 0 u v
    → Pairs (λ i. R (suc i)) xs ys
    → (i : ℕ) (a : A) (b : B) → slice_get (u ∷ xs) i ≡ Some a → slice_get (v ∷ ys) i ≡ Some b → R i a b
onto R u v xs ys first p zero a b ea eb = rw (same_Some u a ea, same_Some v b eb) at first
onto R u v xs ys first p (suc i) a b ea eb = p.each i a b ea eb

-- two lists, one more pair, and then one list with itself
pub Pairs-spliced : {A : Type 0} (R : ℕ → A → A → Type 0) (xs ys : List A) (x y : A) (rest : List A) → Pairs R xs ys
    → R (length xs) x y → ((i : ℕ) (a : A) → length xs < i → R i a a) → Pairs R (xs ++ x ∷ rest) (ys ++ y ∷ rest)
Pairs-spliced R [] [] x y rest p here behind = grind (arith, pairs_self, onto)
Pairs-spliced R (u ∷ xs) (v ∷ ys) x y rest p here behind =
    let more = Pairs-spliced (λ i. R (suc i)) xs ys x y rest (pairs_behind R u v xs ys p) here
    (λ i a low. behind (suc i) a (omega arith)) in
    record { size = ap suc more.size; each = onto R u v _ _ (p.each 0 u v refl refl) more }
Pairs-spliced R xs ys x y rest p here behind = let s = p.size in absurd (omega arith)
