-- The numbers and choices among the arguments of a command.
use Rattle.std.specs.Prelude.{◌≡◌, ℕ, ◌<◌, ◌≤◌, List, length, slice_get, slice_index, Option, Some, None, codes}
use Rattle.std.specs.Str.Parse.{IsNumeral, digits_value, without_leading_plus}
use Rattle.clap.specs.Words.{Text}
use Rattle.snap_order.specs.declared.order.{OutputFormat.OutputFormat, Level.Level, TheConstants.MODE_BITS}
use Rattle.snap_order.specs.declared.order.OutputFormat.TheVariants as layout
use Rattle.snap_order.specs.declared.order.Level.TheVariants as level

-- the argument is a decimal number, with or without a plus sign, and n is its value
abbrev pub IsNumberOf : Option Text → ℕ → Type 0
IsNumberOf None n = ⊥
IsNumberOf (Some word) n = IsNumeral 10 (without_leading_plus word) × (digits_value 10 (without_leading_plus word) ≡ n)

-- the arguments are this index and this count
abbrev pub IsPlaceOf : (of : Text → Option Text) → (index count : ℕ) → Type 0
IsPlaceOf of index count = IsNumberOf (of (codes "index")) index × IsNumberOf (of (codes "count")) count

-- the number of an optional argument: none if it isn't given
abbrev pub IsLargeNumberOf : Option Text → Option ℕ → Type 0
IsLargeNumberOf None None = Unit {0}
IsLargeNumberOf (Some word) (Some n) = IsNumberOf (Some word) n
IsLargeNumberOf word n = ⊥

-- the text is four hexadecimal digits of either case, without a sign, and this is their value
abbrev pub IsMask : Text → ℕ → Type 0
IsMask word bits = (length word ≡ 4) × IsNumeral 16 word × (digits_value 16 word ≡ bits)

-- the text is an octal number, with or without a plus sign, and a mode of this value
abbrev pub IsMode : Text → ℕ → Type 0
IsMode word mode = IsNumeral 8 (without_leading_plus word)
    × (digits_value 8 (without_leading_plus word) ≡ mode) × (mode ≤ MODE_BITS)

-- the argument is this mode
abbrev pub IsModeOf : Option Text → ℕ → Type 0
IsModeOf None mode = ⊥
IsModeOf (Some word) mode = IsMode word mode

-- these are the arguments' numbers, in order
abbrev pub AreSegmentsOf : List Text → List ℕ → Type 0
AreSegmentsOf words segments = (length segments ≡ length words)
    × ((k : ℕ) → k < length words → IsNumberOf (slice_get words k) (slice_index segments k))

abbrev pub level_word : Level → Text
level_word level.Error = codes "error"
level_word level.Warn = codes "warn"
level_word level.Info = codes "info"
level_word level.Debug = codes "debug"

-- the argument is this level's name
abbrev pub IsLevelOf : Option Text → Level → Type 0
IsLevelOf word l = word ≡ Some (level_word l)

-- the flag was given
abbrev pub IsGiven : Option Text → Type 0
IsGiven word = word ≡ Some (codes "true")

-- the output format that these flags ask for
abbrev pub IsLayoutOf : (text json : Option Text) → OutputFormat → Type 0
IsLayoutOf text json layout.Lines = (IsGiven text → ⊥) × (IsGiven json → ⊥)
IsLayoutOf text json layout.Text = IsGiven text × (IsGiven json → ⊥)
IsLayoutOf text json layout.Json = IsGiven json × (IsGiven text → ⊥)
