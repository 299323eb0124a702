-- The text of a value.
use Rattle.std.specs.Prelude.{◌≡◌, ◌≢◌, ◌⊎◌, ℕ, List, [], ◌∷◌, Ok, codes}
use Rattle.hex.specs.Hex.{decode_of, encode_lower}

-- two hexadecimal digits for each byte, of either case, or `-` for no byte
abbrev pub IsHex : List ℕ → List ℕ → Type 0
IsHex word bytes = ((word ≡ codes "-") × (bytes ≡ [])) ⊎ ((word ≢ []) × (decode_of word ≡ Ok bytes))

-- two hexadecimal digits for each byte, in lower case, or `-` for no byte
abbrev pub hex_text : List ℕ → List ℕ
hex_text [] = codes "-"
hex_text (b ∷ bytes) = encode_lower (b ∷ bytes)
