-- The words of a line, and the value of a word.
use Rattle.std.specs.Prelude.{◌≡◌, ℕ, ◌+◌, ◌*◌, ◌≤◌, ◌==◌, List, [], ◌∷◌, length, codes, Option, Some, None, Ok}
use Rattle.std.specs.{List.slice_split, Str.Parse.IsNumeral, Str.Parse.digits_value}
use Rattle.hex.specs.Hex.{decode_of}
use Rattle.snap_order.specs.Hex.{IsHex}
use Rattle.snap_disk.specs.declared.fill.Fill.{Fill}
use Rattle.snap_disk.specs.declared.fill.Fill.TheVariants.{Keep, All, At}
use Rattle.snap_world.specs.set.SegmentSet.{SegmentSet}

-- the fact holds of what was found, or of nothing if nothing was found
abbrev pub Finds : {A : Type 0} → Option A → (A → Type 0) → Type 0
Finds None P = (x : _) → P x → ⊥
Finds (Some x) P = P x

-- the parts of a text between these bytes: one more than there are such bytes
abbrev pub parts_at : ℕ → List ℕ → List (List ℕ)
parts_at c text = slice_split (λ b. b == c) text

-- the words of a line, which single spaces separate
abbrev pub words_of : List ℕ → List (List ℕ)
words_of line = parts_at 32 line

-- 1 to 19 decimal digits, which write n
pub record IsNumber (word : List ℕ) (n : ℕ) : Type 0 where
  pub digits : IsNumeral 10 word
  pub few : length word ≤ 19
  pub value : digits_value 10 word ≡ n

-- an offset and bytes
abbrev pub IsFillAt : List ℕ → List ℕ → Fill → Type 0
IsFillAt o h (At offset bytes) = IsNumber o offset × IsHex h bytes.items
IsFillAt o h Keep = ⊥
IsFillAt o h (All byte) = ⊥

-- `keep`, two hexadecimal digits, or `at:OFFSET:HEX`
abbrev pub IsFill : List ℕ → Fill → Type 0
IsFill word Keep = word ≡ codes "keep"
IsFill word (All byte) = decode_of word ≡ Ok (byte ∷ [])
IsFill word (At offset bytes) =
    (o h : List ℕ) × (parts_at 58 word ≡ codes "at" ∷ o ∷ h ∷ []) × IsFillAt o h (At offset bytes)

-- four hexadecimal digits, which write the bits of the set
abbrev pub IsMask : List ℕ → SegmentSet → Type 0
IsMask word set = (high low : ℕ) × (decode_of word ≡ Ok (high ∷ low ∷ [])) × (set.bits ≡ high * 256 + low)
