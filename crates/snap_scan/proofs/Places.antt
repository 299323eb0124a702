-- The place of a look: collect m, segment i. And a list with one more number.
use Rattle.std.proofs.Common.{◌≡◌, ℕ, ◌+◌, ◌*◌, ◌/◌, ◌%◌, ◌<◌, ap, sym, ◌∙◌}
use Rattle.std.proofs.lemmas.Nat.{div-mul-add, mod-mul-add}
use Rattle.std.proofs.lemmas.List.{length_push, get_or_push, get_or_append_left}

pub ruleset pushed = (length_push, get_or_push, get_or_append_left)

pub same_collect : (n m i p j : ℕ) → i < n → j < n → m * n + i ≡ p * n + j → m ≡ p
same_collect n m i p j hi hj e = sym (div-mul-add m n i hi) ∙ ap (λ x. x / n) e ∙ div-mul-add p n j hj

pub same_segment : (n m i p j : ℕ) → i < n → j < n → m * n + i ≡ p * n + j → i ≡ j
same_segment n m i p j hi hj e = sym (mod-mul-add m n i hi) ∙ ap (λ x. x % n) e ∙ mod-mul-add p n j hj
