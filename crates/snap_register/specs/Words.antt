-- Numbers and values as words. A block is a number, a length, and the value's bytes, eight per word
-- with the lowest first.
use Rattle.std.specs.Prelude.{◌≡◌, ℕ, zero, suc, ◌+◌, ◌/◌, ◌<◌, ◌≤◌, ◌++◌, List, [], ◌∷◌, length, slice_index, take}
use Rattle.std.specs.Int.{w64, to_le_bytes}
use Rattle.snap_history.specs.{declared.limits.TheConstants.MAX_VALUE_LEN, History.Start}

-- how many words n bytes take
abbrev pub words_for : ℕ → ℕ
words_for n = (n + 7) / 8

-- the bytes of k words from place `at` on
abbrev pub bytes_at : List ℕ → ℕ → ℕ → List ℕ
bytes_at ws at zero = []
bytes_at ws at (suc k) = bytes_at ws at k ++ to_le_bytes w64 (slice_index ws (at + k))

-- the length of the block's value
abbrev pub length_at : List ℕ → ℕ → ℕ
length_at ws at = slice_index ws (at + 1)

-- the value of the block
abbrev pub value_at : List ℕ → ℕ → List ℕ
value_at ws at = take (length_at ws at) (bytes_at ws (at + 2) (words_for (length_at ws at)))

-- how many words the block takes
abbrev pub size_at : List ℕ → ℕ → ℕ
size_at ws at = 2 + words_for (length_at ws at)

-- k words from place `at` on
abbrev pub piece : List ℕ → ℕ → ℕ → List ℕ
piece ws at zero = []
piece ws at (suc k) = piece ws at k ++ slice_index ws (at + k) ∷ []

-- the place after k blocks, the first of which is at `at`
abbrev pub behind : List ℕ → ℕ → ℕ → ℕ
behind ws at zero = at
behind ws at (suc k) = behind ws at k + size_at ws (behind ws at k)

-- the block at this place is within the words
pub record IsWhole (ws : List ℕ) (at : ℕ) : Type 0 where
  pub short : length_at ws at ≤ MAX_VALUE_LEN
  pub inside : at + size_at ws at ≤ length ws

-- the number and the value of the block
abbrev pub block_at : List ℕ → ℕ → ℕ × List ℕ
block_at ws at = (slice_index ws at, value_at ws at)

-- the block at this place has number k and value v
pub record IsBlock (ws : List ℕ) (at k : ℕ) (v : List ℕ) : Type 0 where
  pub whole : IsWhole ws at
  pub is : block_at ws at ≡ (k, v)

-- the words from this place on are n blocks, with these numbers and values
pub record AreBlocks (ws : List ℕ) (at n : ℕ) (f : Start) : Type 0 where
  pub each : (i : ℕ) → i < n → IsBlock ws (behind ws at i) (f i).0 (f i).1
  pub last : behind ws at n ≡ length ws

-- the words are a record: the block of its number and value, then the blocks of its view
pub record IsRecord (n k : ℕ) (v : List ℕ) (f : Start) (ws : List ℕ) : Type 0 where
  pub own : IsBlock ws 0 k v
  pub view : AreBlocks ws (size_at ws 0) n f
