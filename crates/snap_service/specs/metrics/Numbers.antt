-- Numbers that grow up to 2^64 - 1.
use Rattle.std.specs.Prelude.{ℕ, ◌+◌, ◌-◌, ◌^◌, min, List, [], ◌∷◌, slice_index, slice_set}

-- `n` with `more` added, at most 2^64 - 1.
abbrev pub raised : ℕ → ℕ → ℕ
raised n more = min (n + more) (2 ^ 64 - 1)

-- the numbers with the one at this index raised by one
abbrev pub raised_at : List ℕ → ℕ → List ℕ
raised_at xs place = slice_set xs place (raised (slice_index xs place) 1)

-- each number raised by the one at its index
abbrev pub raised_each : List ℕ → List ℕ → List ℕ
raised_each [] ys = []
raised_each (x ∷ xs) [] = x ∷ xs
raised_each (x ∷ xs) (y ∷ ys) = raised x y ∷ raised_each xs ys
