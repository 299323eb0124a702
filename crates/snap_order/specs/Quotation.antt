-- Values as quoted text.
use Rattle.std.specs.Prelude.{ℕ, Bool, true, false, ◌&&◌, ◌||◌, not, List, [], ◌∷◌, nat_eq, Option, Some, None}
use Rattle.std.specs.Prelude.{if◌then◌else◌}
use Rattle.std.specs.{Str.is_utf8, Int.is_in_range}
use Rattle.json.specs.{Print.print, Token.string}

-- a tab or line end
abbrev pub is_white : ℕ → Bool
is_white b = is_in_range 9 10 b || nat_eq b 13

-- The byte belongs to no control character, or is a tab or line end. Control characters of two
-- bytes are 194 followed by 128 to 159; `behind` says that the byte before this one is 194.
abbrev pub is_plain : (behind : Bool) → ℕ → Bool
is_plain behind b = is_white b
    || not (is_in_range 0 31 b || (nat_eq b 127 || (behind && is_in_range 128 159 b)))

-- all bytes are plain
abbrev pub are_plain : (behind : Bool) → List ℕ → Bool
are_plain behind [] = true
are_plain behind (b ∷ bytes) = is_plain behind b && are_plain (nat_eq b 194) bytes

-- UTF-8 without control characters but tabs and line ends
abbrev pub is_printable : List ℕ → Bool
is_printable bytes = are_plain false bytes && is_utf8 bytes

-- the text between quotes, as in JSON
abbrev pub quoted : List ℕ → List ℕ
quoted bytes = print (string bytes ∷ [])

-- the quoted text, if the bytes are printable
abbrev pub quote_of : List ℕ → Option (List ℕ)
quote_of bytes = if is_printable bytes then Some (quoted bytes) else None
