-- The looks of one scan and a history that only grows. A moment is a number: how many updates there were by then.
use Rattle.std.specs.Prelude.{◌≡◌, ℕ, ◌+◌, ◌-◌, ◌*◌, ◌<◌, ◌≤◌, List, length, slice_index, slice_get, Some}
use Rattle.snap_scan.specs.Looks.{IsClean, IsBorrow}

-- the number of each segment at each moment, and the entry that a look finds with it
abbrev pub Numbers : Type 0
Numbers = (moment segment : ℕ) → ℕ

abbrev pub Entries : Type 0 → Type 0
Entries A = (moment segment : ℕ) → A

-- no number falls
abbrev pub IsRising : Numbers → Type 0
IsRising number = (i s t : ℕ) → s ≤ t → number s i ≤ number t i

-- while a number stays its entry stays
abbrev pub IsKept : (A : Type 0) → Numbers → Entries A → Type 0
IsKept A number entry = (i s t : ℕ) → s ≤ t → number s i ≡ number t i → entry s i ≡ entry t i

-- all looks of a scan, each at its moment from b to e, with the numbers they found and the entries
-- that each segment's latest look found
pub record Collects (A : Type 0) (n : ℕ) (number : Numbers) (entry : Entries A) (b e : ℕ)
    (told : List ℕ) (latest : List A) : Type 0 where
  pub moment : ℕ → ℕ
  pub after : (t : ℕ) → t < length told → b ≤ moment t
  pub until : (t : ℕ) → t < length told → moment t ≤ e
  pub order : (s t : ℕ) → s ≤ t → t < length told → moment s ≤ moment t
  pub numbers : (m i : ℕ) → i < n → m * n + i < length told
      → slice_index told (m * n + i) ≡ number (moment (m * n + i)) i
  pub entries : (m i : ℕ) → i < n → m * n + i < length told → length told ≤ m * n + i + n
      → slice_get latest i ≡ Some (entry (moment (m * n + i)) i)

-- the numbers found are those of moment p: after a clean end the last n are the numbers at p; after
-- a borrow from j the last one is one above the number of j at p
pub record Tells (n : ℕ) (number : Numbers) (told : List ℕ) (p : ℕ) : Type 0 where
  pub clean : IsClean n told → (i : ℕ) → i < n → number p i ≡ slice_index told (length told - n + i)
  pub borrow : (j : ℕ) → IsBorrow n told j → number p j + 1 ≡ slice_index told (length told - 1)

-- p is the moment of a scan from b to e that found these numbers
pub record IsMoment (n : ℕ) (number : Numbers) (b e : ℕ) (told : List ℕ) (p : ℕ) : Type 0 where
  pub after : b ≤ p
  pub until : p ≤ e
  pub tells : Tells n number told p

-- the entries are those of moment p
abbrev pub IsThen : (A : Type 0) → ℕ → Entries A → ℕ → List A → Type 0
IsThen A n entry p latest = (i : ℕ) → i < n → slice_get latest i ≡ Some (entry p i)
