-- Elements of a list: of one that was written, of one that a function made, of one with a partner at each place.
-- what holds for the element that was written and for all others holds for each element
use Rattle.std.proofs.Common.{rules, ◌≡◌, ◌≢◌, ℕ, zero, suc, ◌<◌, List, [], ◌∷◌, length, map, get_or, replicate, Some}
use Rattle.std.proofs.Common.{slice_get, slice_set, refl, ap, ◌∙◌, subst, arith}
use Rattle.std.proofs.lemmas.Option.{slice_get-map, slice_get_read, slice_get_within, same_Some}
use Rattle.std.proofs.{lemmas.List.length-map}
use Rattle.std.specs.{Prelude.option_map}
use Rattle.snap_history.proofs.{Pairs.element}
use Rattle.snap_history.specs.{Pairs.Pairs}

pub each-set : {A : Type 0} (P : ℕ → A → Type 0) (xs : List A) (i : ℕ) (x : A) → P i x → ((j : ℕ) (y : A) → j ≢ i
    → slice_get xs j ≡ Some y → P j y) → (j : ℕ) (y : A) → slice_get (slice_set xs i x) j ≡ Some y → P j y
each-set P [] i x here others j y e = cc
each-set P (z ∷ xs) zero x here others zero y e = let same : x ≡ y = cc in subst (P 0) same here
each-set P (z ∷ xs) zero x here others (suc j) y e = others (suc j) y (λ f. cc) e
each-set P (z ∷ xs) (suc i) x here others zero y e = others 0 y (λ f. cc) e
each-set P (z ∷ xs) (suc i) x here others (suc j) y e = each-set (λ k. P (suc k)) xs i x here (search rules) j y e

-- an element that was written
pub set_is : {A : Type 0} (xs : List A) (i : ℕ) (x y : A) → slice_get (slice_set xs i x) i ≡ Some y → x ≡ y
set_is (z ∷ xs) (suc i) x y e = set_is xs i x y e
set_is xs i x y e = cc

-- an element that is written where it was
pub set_same : {A : Type 0} (xs : List A) (i : ℕ) (x : A) → slice_get xs i ≡ Some x → slice_set xs i x ≡ xs
set_same (z ∷ xs) (suc i) x e = cc (set_same xs i x e)
set_same xs i x e = cc

-- two reads of one place
pub same_read : {A : Type 0} (xs : List A) (i : ℕ) (a b : A) → i < length xs → a ≡ get_or xs i a
    → b ≡ get_or xs i b → a ≡ b
same_read xs i a b l ea eb = search (rules, same_Some, slice_get_read)

-- an element of a mapped list
pub map_element : {A B : Type 0} (f : A → B) (xs : List A) (i : ℕ) (b : B)
    → slice_get (map f xs) i ≡ Some b → (a : A) × (slice_get xs i ≡ Some a) × (f a ≡ b)
map_element f xs i b e = search (rules, slice_get_within, length-map, element, same_Some, slice_get-map)

pub map_at : {A B : Type 0} (f : A → B) (xs : List A) (i : ℕ) (a : A) → slice_get xs i ≡ Some a
    → slice_get (map f xs) i ≡ Some (f a)
map_at f xs i a there = slice_get-map f xs i ∙ ap (option_map f) there

-- in a mapped list with an element at this place: an element that was read, and its image
module _ {A B : Type 0} (f : A → B) (xs : List A) (i : ℕ) (b : B) (is : slice_get (map f xs) i ≡ Some b) where
  pub map_within : i < length xs
  map_within = let a = map_element f xs i b is in slice_get_within xs i a.0 a.1

  pub map_read : (a : A) → a ≡ get_or xs i a → (slice_get xs i ≡ Some a) × (f a ≡ b)
  map_read a read = search (rules, slice_get_read, map_within, same_Some, map_at)

-- two lists that a function maps to one list, and one that it maps to one value
pub map_same : {A B : Type 0} (f : A → B) (xs ys : List A) → length xs ≡ length ys
    → ((i : ℕ) (a b : A) → slice_get xs i ≡ Some a → slice_get ys i ≡ Some b → f a ≡ f b) → map f xs ≡ map f ys
map_same f [] [] size each = refl
map_same f (x ∷ xs) (y ∷ ys) size each = cc (each 0 x y refl refl, map_same f xs ys (omega arith) (λ i. each (suc i)))
map_same f xs ys size each = absurd (omega arith)

pub all_same : {A B : Type 0} (f : A → B) (v : B) (xs : List A) (n : ℕ) → length xs ≡ n
    → ((i : ℕ) (x : A) → slice_get xs i ≡ Some x → f x ≡ v) → map f xs ≡ replicate n v
all_same f v [] zero size each = refl
all_same f v (x ∷ xs) (suc n) size each = cc (each 0 x refl, all_same f v xs n (omega arith) (λ i. each (suc i)))
all_same f v xs n size each = absurd (omega arith)

-- the element that an element of the second list is paired with
pub origin : {A B : Type 0} {R : ℕ → A → B → Type 0} {xs : List A} {ys : List B} (i : ℕ) (b : B)
    → Pairs R xs ys → slice_get ys i ≡ Some b → (a : A) × (slice_get xs i ≡ Some a) × R i a b
origin {xs = xs} {ys = ys} i b p e =
    let a = element xs i (omega (arith, slice_get_within ys i b e, p.size)) in (a.0, a.1, p.each i a.0 b a.1 e)
