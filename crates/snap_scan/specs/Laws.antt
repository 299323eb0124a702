-- Laws of a scan's looks, for entries that are values.
use Rattle.std.specs.Prelude.{◌≡◌, ℕ, ◌+◌, ◌<◌, ◌≤◌, List, [], ◌∷◌, ◌++◌, length, slice_set}
use Rattle.snap_scan.specs.Looks.{IsClean, IsBorrow, IsTurn, IsNoFall}
use Rattle.snap_scan.specs.Collects.{Numbers, Entries, IsRising, IsKept, Collects, IsMoment, IsThen}

-- a look at moment t, after all earlier looks, finds no number that has fallen
abbrev pub NoFall : Type 0
NoFall = (n : ℕ) (number : Numbers) (entry : Entries (List ℕ)) (b e t : ℕ) (told : List ℕ)
    (latest : List (List ℕ)) (j : ℕ) → IsRising number → e ≤ t → Collects (List ℕ) n number entry b e told latest
    → j < n → IsNoFall n told j (number t j)

-- it adds its number and its entry to the scan's looks
abbrev pub LookMore : Type 0
LookMore = (n : ℕ) (number : Numbers) (entry : Entries (List ℕ)) (b e t : ℕ) (told : List ℕ)
    (latest : List (List ℕ)) (j : ℕ)
    → b ≤ t → e ≤ t → length latest ≡ n → Collects (List ℕ) n number entry b e told latest → IsTurn n told j
    → Collects (List ℕ) n number entry b t (told ++ number t j ∷ []) (slice_set latest j (entry t j))

-- two equal collects show a moment of the scan, and the latest entries are those of that moment
abbrev pub CleanMoment : Type 0
CleanMoment = (n : ℕ) (number : Numbers) (entry : Entries (List ℕ)) (b e : ℕ) (told : List ℕ) (latest : List (List ℕ))
    → IsRising number → IsKept (List ℕ) number entry → 0 < n → Collects (List ℕ) n number entry b e told latest
    → IsClean n told → ((j : ℕ) → IsBorrow n told j → ⊥)
    → (p : ℕ) × IsMoment n number b e told p × IsThen (List ℕ) n entry p latest

-- if a segment has risen by two since the scan's first look, each moment at which its number was one
-- lower than now is a moment of the scan
abbrev pub BorrowMoment : Type 0
BorrowMoment = (n : ℕ) (number : Numbers) (entry : Entries (List ℕ)) (b e t : ℕ) (told : List ℕ)
    (latest : List (List ℕ)) (j p : ℕ)
    → IsRising number → e ≤ t → Collects (List ℕ) n number entry b e told latest → IsTurn n told j
    → IsBorrow n (told ++ number t j ∷ []) j → (IsClean n (told ++ number t j ∷ []) → ⊥)
    → p ≤ t → number p j + 1 ≡ number t j → IsMoment n number b t (told ++ number t j ∷ []) p
