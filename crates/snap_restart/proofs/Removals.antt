-- Lists whose items are removed one after another.
use Rattle.std.proofs.Common.{◌≡◌, ℕ, zero, suc, ◌+◌, List, ◌∷◌, ◌++◌, length, map, Some, slice_get, Option, [], None}
use Rattle.std.proofs.Common.{Result, Ok, Err, IfOk, append-nil, refl, ap, ◌∙◌, arith, ◌<◌, IsSome, IsErr, option_map}
use Rattle.std.proofs.lemmas.{List.nil_from_length, Option.slice_get-map}

pub get_map : {A B : Type 0} (f : A → B) (ws : List A) (k : ℕ) (x : A) → slice_get ws k ≡ Some x
    → slice_get (map f ws) k ≡ Some (f x)
get_map f ws k x e = slice_get-map f ws k ∙ ap (option_map f) e

-- one item more was removed, and the iterator has as many left as it says
pub one_fewer : {A : Type 0} {x : A} {left rest : List A} {m n : ℕ} → m ≡ length left
    → left ≡ x ∷ rest → n + 1 ≡ m → n ≡ length rest
one_fewer was next gone = let short = ap length next in omega arith

-- the iterator returns nothing if nothing is left
pub none_comes : {A : Type 0} (next : Option A) (n : ℕ) → (0 < n → IsSome next) → ((x : A) → next ≡ Some x → ⊥) → n ≡ 0
none_comes (Some x) n some none = absurd (none x refl)
none_comes None zero some none = refl
none_comes None (suc n) some none = absurd (let is = some (omega arith) in cc)

-- nothing is left to be taken
pub all_yielded : {A : Type 0} {n : ℕ} (xs left all : List A) → xs ++ left ≡ all → n ≡ length left → n ≡ 0 → xs ≡ all
all_yielded xs left all whole long none = grind (arith, append-nil, nil_from_length)

-- the item that is taken next
pub get_next : {A B : Type 0} (f : B → A) (ws : List B) (left rest all : List A) (x : A) → map f ws ++ left ≡ all
    → left ≡ x ∷ rest → slice_get all (length ws) ≡ Some x
get_next f [] left rest all x whole next = rw (← whole, next)
get_next f (w ∷ ws) left rest all x whole next = rw (← whole) (get_next f ws left rest _ x refl next)

pub no_ok : {T E : Type 0} (result : Result T E) (P : T → Type 0) → IsErr result → IfOk result P
no_ok (Ok x) P is = absurd cc
no_ok (Err e) P is = tt
