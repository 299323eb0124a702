-- The names of a segment's file.
use Rattle.std.specs.Prelude.{◌≡◌, ◌≢◌, ℕ, ◌<◌, ◌/◌, ◌%◌, List, ◌++◌, codes}
use Rattle.std.specs.Fmt.{decimal}

-- `segment-07.seg` for 7: two digits
abbrev pub name_of : ℕ → List ℕ
name_of i = codes "segment-" ++ (decimal (i / 10) ++ (decimal (i % 10) ++ codes ".seg"))

-- it ends in `.seg`
abbrev pub IsSegmentName : List ℕ → Type 0
IsSegmentName name = (before : List ℕ) × (name ≡ before ++ codes ".seg")

-- it has the form of the names above, and is none of the first ones
pub record IsFurther (count : ℕ) (name : List ℕ) : Type 0 where
  pub ends : IsSegmentName name
  pub begins : (rest : List ℕ) × (name ≡ codes "segment-" ++ rest)
  pub other : (i : ℕ) → i < count → name ≢ name_of i
