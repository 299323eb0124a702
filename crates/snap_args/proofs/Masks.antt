-- Masks as text.
use Rattle.std.proofs.Common.{◌≡◌, ◌≢◌, ◌⊎◌, ℕ, ◌<◌, ◌^◌, List, [], ◌∷◌, length, get_or, arith, inl, inr, subst, sym}
use Rattle.std.specs.Str.Parse.{IsNumeral, digits_value, without_leading_plus}
use Rattle.std.proofs.lemmas.{Int.Digits.digits_value-lt, Str.Parse.without_leading_plus_none}
use Rattle.snap_args.specs.Numbers.{IsMask}

-- a plus sign is no digit
no_plus : (word : List ℕ) → get_or word 0 0 ≡ 43 → IsNumeral 16 word → ⊥
no_plus [] e is = omega arith
no_plus (c ∷ cs) e is = absurd (grind (arith, e))

-- a text of another length, or with a plus sign, is no mask
pub no_mask : (word : List ℕ) → (length word ≢ 4) ⊎ (get_or word 0 0 ≡ 43) → (bits : ℕ) → IsMask word bits → ⊥
no_mask word (inl long) bits is = long is.0
no_mask word (inr plus) bits is = no_plus word plus is.1

-- the number read from four digits without a sign is their mask
pub mask_read : (word : List ℕ) (bits : ℕ) → length word ≡ 4 → get_or word 0 0 ≢ 43
    → IsNumeral 16 (without_leading_plus word) → bits ≡ digits_value 16 (without_leading_plus word) → IsMask word bits
mask_read word bits long none digits is =
    let e : without_leading_plus word ≡ word = without_leading_plus_none word none in
    (long, subst (IsNumeral 16) e digits, sym (subst (λ (w : List ℕ). bits ≡ digits_value 16 w) e is))

-- four digits are always read
pub always_read : (word : List ℕ) (bits : ℕ) → get_or word 0 0 ≢ 43 → IsMask word bits
    → IsNumeral 16 (without_leading_plus word) × (digits_value 16 (without_leading_plus word) < 2 ^ 16)
always_read word bits none is =
    let e : word ≡ without_leading_plus word = sym (without_leading_plus_none word none) in
    let small : digits_value 16 word < 16 ^ 4 =
    subst (λ (n : ℕ). digits_value 16 word < 16 ^ n) is.0 (digits_value-lt 16 word is.1.1) in
    subst (λ (w : List ℕ). IsNumeral 16 w × (digits_value 16 w < 2 ^ 16)) e (is.1, small)
