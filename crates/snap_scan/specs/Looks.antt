-- What the list of numbers that a scan of n segments found decides. Look t is at segment t mod n:
-- in collect m the look at segment i is look m * n + i.
use Rattle.std.specs.Prelude.{◌≡◌, ℕ, ◌+◌, ◌-◌, ◌*◌, ◌<◌, ◌≤◌, ◌⊎◌, List, length, slice_index}

-- the most looks of a scan: one collect, n more whose comparison fails, and one whose comparison succeeds
abbrev pub most_looks : ℕ → ℕ
most_looks n = n * (n + 2)

-- the next look is at segment j
abbrev pub IsTurn : ℕ → List ℕ → ℕ → Type 0
IsTurn n L j = (j < n) × ((m : ℕ) × (length L ≡ m * n + j))

-- at segment j's turn, a number that isn't below the last one found for that segment
abbrev pub IsNoFall : ℕ → List ℕ → ℕ → ℕ → Type 0
IsNoFall n L j number = (m : ℕ) → length L ≡ (m + 1) * n + j → slice_index L (m * n + j) ≤ number

-- clean: the list ends with two whole collects, which found the same numbers
pub record IsClean (n : ℕ) (L : List ℕ) : Type 0 where
  pub rounds : (c : ℕ) × (length L ≡ (c + 2) * n)
  pub same : (i : ℕ) → i < n → slice_index L (length L - 2 * n + i) ≡ slice_index L (length L - n + i)

-- a borrow: the last look was at j, and found a number at least 2 above that of the first look at j
pub record IsBorrow (n : ℕ) (L : List ℕ) (j : ℕ) : Type 0 where
  pub last : (m : ℕ) × (length L ≡ m * n + j + 1)
  pub segment : j < n
  pub moved : slice_index L j + 2 ≤ slice_index L (length L - 1)

-- the numbers decide an answer
abbrev pub IsDecided : ℕ → List ℕ → Type 0
IsDecided n L = IsClean n L ⊎ ((j : ℕ) × IsBorrow n L j)
