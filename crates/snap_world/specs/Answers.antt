-- The answers of a scan: its segments as they were at one moment. A moment is a number: how many
-- updates the history had then.
use Rattle.std.specs.Prelude.{◌≡◌, ℕ, ◌-◌, ◌^◌, List, [], map, Option, Some, None, slice_index, take}
use Rattle.snap_history.specs.History.{Update, from_nothing, number_after, value_after}
use Rattle.snap_scan.specs.{Collects.IsMoment, Sets.named, Sets.size}
use Rattle.snap_world.specs.declared.event.PartEntry.{PartEntry}
use Rattle.snap_world.specs.declared.scanner.Asked.{Asked, TheVariants.All, TheVariants.Only}

-- number and value of segment i after the first t updates
abbrev pub number_at : List Update → ℕ → ℕ → ℕ
number_at h t i = number_after from_nothing (take t h) i

abbrev pub value_at : List Update → ℕ → ℕ → List ℕ
value_at h t i = value_after from_nothing (take t h) i

-- the set of all n segments, and the set of the segments that were asked for
abbrev pub all_of : ℕ → ℕ
all_of n = 2 ^ n - 1

abbrev pub set_of : ℕ → Asked → ℕ
set_of n All = all_of n
set_of n (Only set) = set.bits

-- number and value of the segment at this place of the set after the first t updates, for the laws of a scan
abbrev pub numbers_of : ℕ → List Update → ℕ → ℕ → ℕ
numbers_of set h t place = number_at h t (slice_index (named set) place)

abbrev pub values_of : ℕ → List Update → ℕ → ℕ → List ℕ
values_of set h t place = value_at h t (slice_index (named set) place)

-- the segments of the set in ascending order, each with its value after the first t updates
abbrev pub entry_at : List Update → ℕ → ℕ → ℕ × List ℕ
entry_at h t i = (i, value_at h t i)

abbrev pub part_at : ℕ → List Update → ℕ → List (ℕ × List ℕ)
part_at set h t = map (entry_at h t) (named set)

-- an entry of a reply, as a segment and its value
abbrev pub pair_of : PartEntry → ℕ × List ℕ
pair_of e = (e.segment, e.value.items)

-- a scan: the moments of its beginning and of its last look, the numbers that it has read, and,
-- once they decide an answer, the moment of that answer
pub record ScanState : Type 0 where
  pub start : ℕ
  pub last : ℕ
  pub told : List ℕ
  pub moment : Option ℕ

-- a scan that begins at moment b
abbrev pub scan_from : ℕ → ScanState
scan_from b = record { start = b; last = b; told = []; moment = None }

-- a scan of this set answers with what `Is` says of its moment, which lies between its beginning
-- and its last look, and follows from the numbers that it has read
pub record IsAnswer (set : ℕ) (h : List Update) (s : ScanState) (Is : ℕ → Type 0) : Type 0 where
  pub p : ℕ
  pub moment : s.moment ≡ Some p
  pub is_moment : IsMoment (size set) (numbers_of set h) s.start s.last s.told p
  pub is : Is p
