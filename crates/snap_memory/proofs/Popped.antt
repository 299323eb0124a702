-- A property of all elements of a list holds of the last one.
use Rattle.std.proofs.Common.{◌≡◌, ℕ, List, ◌++◌, length, Option, Some, slice_get, ap, ◌∙◌}
use Rattle.std.specs.Option.{option_to_list}
use Rattle.snap_history.proofs.Lists.{get-append_last}

pub last_has : {A : Type 0} (P : ℕ → A → Type 0) (before after : List A) (r : Option A) (x : A)
    → before ≡ after ++ option_to_list r → r ≡ Some x
    → ((i : ℕ) (a : A) → slice_get before i ≡ Some a → P i a) → P (length after) x
last_has P before after r x items is all = all (length after) x (ap (λ l. slice_get l (length after)) (items
    ∙ ap (λ o. after ++ option_to_list o) is) ∙ get-append_last after x)
