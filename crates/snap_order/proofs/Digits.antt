-- The digits of a value are those of its pieces.
use Rattle.std.proofs.Common.{◌≡◌, ℕ, zero, suc, ◌/◌, ◌%◌, ◌<◌, List, [], ◌∷◌, ◌++◌, length, take, drop, slice_index}
use Rattle.std.proofs.Common.{refl, sym, ap, ◌∙◌, append_assoc, append-nil, arith}
use Rattle.hex.specs.Hex.{encode_with, encode_lower, lower_digits}
use Rattle.snap_order.specs.Hex.{hex_text}

encode_split : (t : List ℕ) (k : ℕ) (xs : List ℕ)
    → encode_with t (take k xs) ++ encode_with t (drop k xs) ≡ encode_with t xs
unfolding encode_with
encode_split t zero xs = refl
encode_split t (suc k) [] = refl
encode_split t (suc k) (x ∷ xs) =
    ap (λ rest. slice_index t (x / 16) ∷ slice_index t (x % 16) ∷ rest) (encode_split t k xs)

-- after one more piece
pub digits_on : (out old xs whole : List ℕ) (k : ℕ) → out ++ encode_lower xs ≡ old ++ whole
    → (out ++ encode_lower (take k xs)) ++ encode_lower (drop k xs) ≡ old ++ whole
digits_on out old xs whole k e = append_assoc out (encode_lower (take k xs)) (encode_lower (drop k xs))
    ∙ ap (λ t. out ++ t) (encode_split lower_digits k xs) ∙ e

-- after the last piece
pub digits_end : (out old xs whole : List ℕ) → length xs ≡ 0 → out ++ encode_lower xs ≡ old ++ whole
    → out ≡ old ++ whole
unfolding encode_with
digits_end out old [] whole none e = sym (append-nil out) ∙ e
digits_end out old (x ∷ xs) whole none e = absurd (omega arith)

pub hex_text-some : (bytes : List ℕ) → 0 < length bytes → hex_text bytes ≡ encode_lower bytes
hex_text-some [] h = absurd (omega arith)
hex_text-some (b ∷ bytes) h = refl
