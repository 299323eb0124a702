-- The limits of values and their numbers.
use Rattle.std.specs.Prelude.{ℕ, ◌+◌, ◌<◌, ◌≤◌, List, length}
use Rattle.snap_history.specs.declared.limits.TheConstants.{MAX_VALUE_LEN, LAST_NUMBER}

-- k is a valid number
abbrev pub IsNumber : ℕ → Type 0
IsNumber k = k < LAST_NUMBER + 1

-- the value isn't too long
abbrev pub IsShort : List ℕ → Type 0
IsShort v = length v ≤ MAX_VALUE_LEN
