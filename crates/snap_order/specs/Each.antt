-- Concatenation over a list with indices.
use Rattle.std.specs.Prelude.{ℕ, ◌+◌, List, [], ◌∷◌, ◌++◌}

-- `say` of each element with its index, one after another; the first index is i
abbrev pub each_from : {X Y : Type 0} → (ℕ → X → List Y) → ℕ → List X → List Y
each_from say i [] = []
each_from say i (x ∷ xs) = say i x ++ each_from say (i + 1) xs
