-- Sets of segments, as numbers: bit i is set if the set names segment i.
use Rattle.std.specs.Prelude.{◌≡◌, ℕ, ◌==◌, List, [], ◌∷◌, ◌++◌, length, cond, slice_get, Some}
use Rattle.std.{proofs.Common.zero, proofs.Common.suc, specs.Int.bit_at}

-- the set names segment i
abbrev pub Names : ℕ → ℕ → Type 0
Names set i = bit_at set i ≡ 1

-- the segments below k that the set names, in ascending order
unfoldable pub named_below : ℕ → ℕ → List ℕ
named_below set zero = []
named_below set (suc k) = cond (bit_at set k == 1) (named_below set k ++ k ∷ []) (named_below set k)

-- the segments that the set names, in ascending order
abbrev pub named : ℕ → List ℕ
named set = named_below set 16

-- how many segments the set names
abbrev pub size : ℕ → ℕ
size set = length (named set)

-- segment j is at place p of the set
abbrev pub IsAt : ℕ → ℕ → ℕ → Type 0
IsAt set p j = slice_get (named set) p ≡ Some j
