-- The order of a folder's files, and the faults of files that have none. `places` has the place in each file's header.
use Rattle.std.specs.Prelude.{◌≡◌, ◌≢◌, ℕ, ◌<◌, ◌≤◌, List, [], length, All, Option, Some, None, slice_get, slice_index}
use Rattle.std.specs.Prelude.{sum_by}
use Rattle.snap_history.specs.declared.limits.TheConstants.{MAX_COUNT}
use Rattle.snap_file_commands.specs.declared.segment_order.FolderFault.TheVariants.{Empty, NoPlace, OtherCount, Twice}
use Rattle.snap_file_commands.specs.declared.segment_order.FolderFault.TheVariants.{Missing, NoMemory}
use Rattle.snap_file_commands.specs.declared.segment_order.{SegmentPlace.SegmentPlace, FolderFault.FolderFault}

-- this file is there, and its header has this place
abbrev pub Says : List SegmentPlace → ℕ → SegmentPlace → Type 0
Says places file place = slice_get places file ≡ Some place

-- the files in order: each of them once, that of segment i at place i
pub record IsOrderOf (places : List SegmentPlace) (order : List ℕ) : Type 0 where
  -- it has as many entries as there are files
  pub whole : length order ≡ length places
  -- at index i is the file whose header has segment i, of as many as there are
  pub each : (i : ℕ) → i < length order
      → Says places (slice_index order i) (record { index = i; count = length order })

-- it is the place of one of `count` segments
abbrev pub IsOneOf : (count : ℕ) → SegmentPlace → Type 0
IsOneOf count place = (place.index < count) × (place.count ≡ count)

-- it is a valid place
abbrev pub IsRight : SegmentPlace → Type 0
IsRight place = (place.index < place.count) × (place.count ≤ MAX_COUNT)

-- the fault is true of the files
abbrev pub IsFaultOf : List SegmentPlace → FolderFault → Type 0
IsFaultOf places Empty = places ≡ []
IsFaultOf places (NoPlace file) = (p : SegmentPlace) × Says places file p × (IsRight p → ⊥)
IsFaultOf places (OtherCount file) = (p : SegmentPlace) × (q : SegmentPlace) × Says places 0 p
    × Says places file q × (q.count ≢ p.count)
IsFaultOf places (Twice first second) = (p : SegmentPlace) × (q : SegmentPlace)
    × Says places first p × Says places second q × (first < second) × (p.index ≡ q.index)
IsFaultOf places (Missing index count) = (index < count) × (count ≤ MAX_COUNT)
    × (0 < length places) × All (λ p. (p.count ≡ count) × (p.index ≢ index)) places
IsFaultOf places NoMemory = Unit {0}

-- ---- while the files are sorted

-- how many files a segment has
abbrev pub file_count : Option ℕ → ℕ
file_count None = 0
file_count (Some file) = 1

-- the first `files` files are sorted, each to the segment in its header, and no other segment has a file
pub record IsSeating (places : List SegmentPlace) (count files : ℕ) (seats : List (Option ℕ))
    : Type 0 where
  pub size : length seats ≡ count
  pub full : sum_by file_count seats ≡ files
  pub each : (file : ℕ) (p : SegmentPlace) → file < files → Says places file p
      → slice_get seats p.index ≡ Some (Some file)
  pub back : (i file : ℕ) → slice_get seats i ≡ Some (Some file)
      → (file < files) × Says places file (record { index = i; count = count })
