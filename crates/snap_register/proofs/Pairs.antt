-- Two lists of equal length, with a fact that holds at each place, which grow by appending.
use Rattle.std.proofs.Common.{◌≡◌, ℕ, ◌+◌, List, [], ◌∷◌, ◌++◌, length, map, take}
use Rattle.std.proofs.Common.{slice_get, Some, ap, ◌∙◌, arith}
use Rattle.std.proofs.lemmas.List.{length_push, map-append, take_more}
use Rattle.std.proofs.lemmas.Option.{slice_get_within, get_or_from_slice_get, same_Some}
use Rattle.snap_history.specs.Pairs.{Pairs}
use Rattle.snap_history.proofs.Lists.{get-push_at, get-append_left, get-append_last}

-- one pair more
pub Pairs-push : {A B : Type 0} (R : ℕ → A → B → Type 0) (xs : List A) (ys : List B) (x : A) (y : B)
    → Pairs R xs ys → R (length xs) x y → Pairs R (xs ++ x ∷ []) (ys ++ y ∷ [])
Pairs-push R xs ys x y p here =
    grind (arith, length_push, get-push_at, slice_get_within, get-append_left, same_Some, get-append_last)

-- the first k elements and the next one
pub take_next : {A : Type 0} (k : ℕ) (xs : List A) (x : A) → slice_get xs k ≡ Some x
    → take (k + 1) xs ≡ take k xs ++ x ∷ []
take_next k xs x e = take_more xs k x (slice_get_within xs k x e)
    ∙ ap (λ z. take k xs ++ z ∷ []) (get_or_from_slice_get xs k x x e)

pub map_next : {A B : Type 0} (f : A → B) (k : ℕ) (xs : List A) (x : A) → slice_get xs k ≡ Some x
    → map f (take (k + 1) xs) ≡ map f (take k xs) ++ f x ∷ []
map_next f k xs x e = ap (map f) (take_next k xs x e) ∙ map-append f (take k xs) (x ∷ [])
