-- The lists of numbers that a scan's machine represents. It keeps only the first and the latest numbers.
use Rattle.std.specs.Prelude.{◌≡◌, ℕ, ◌+◌, ◌*◌, ◌<◌, ◌≤◌, List, length, slice_index, take, Bool, true, false}
use Rattle.snap_scan.specs.Looks.{IsClean, IsBorrow, IsNoFall}
use Rattle.snap_scan.specs.Sets.{named, size}
use Rattle.snap_scan.specs.declared.next.Next.TheVariants.{Look, Clean, Borrow}
use Rattle.snap_scan.specs.declared.{limits.TheConstants.MAX_SEGMENTS, machine.Machine.Machine}
use Rattle.snap_scan.specs.declared.{scan.Segments.Segments, set.SegmentSet.SegmentSet, next.Next.Next}

-- each of the first k looks found a number less than 2 above that of its segment's first look
abbrev pub AllLow : ℕ → List ℕ → ℕ → Type 0
AllLow n L k = (m i : ℕ) → i < n → m * n + i < k → slice_index L (m * n + i) < slice_index L i + 2

-- collects m and m + 1 have equal numbers at the first j segments
abbrev pub Same : ℕ → List ℕ → ℕ → ℕ → Type 0
Same n L m j = (i : ℕ) → i < j → slice_index L (m * n + i) ≡ slice_index L ((m + 1) * n + i)

-- no number fell
abbrev pub IsRising : ℕ → List ℕ → Type 0
IsRising n L = (m i : ℕ) → i < n → (m + 1) * n + i < length L
    → slice_index L (m * n + i) ≤ slice_index L ((m + 1) * n + i)

-- no list of the first k numbers or fewer is clean or a borrow
pub record IsUndecided (n : ℕ) (L : List ℕ) (k : ℕ) : Type 0 where
  pub low : AllLow n L k
  pub no_clean : (c : ℕ) → (c + 2) * n ≤ k → Same n L c n → ⊥

-- whether collect m differs from the one before at its first j segments; the first collect counts as different
abbrev pub IsChanged : Bool → ℕ → List ℕ → ℕ → ℕ → Type 0
IsChanged false n L m j = (p : ℕ) × (m ≡ p + 1) × Same n L p j
IsChanged true n L m j = (p : ℕ) → m ≡ p + 1 → Same n L p j → ⊥

-- the machine's next look is at segment j, in collect m
pub record IsLooking (s : Machine) (L : List ℕ) (j : ℕ) : Type 0 where
  pub m : ℕ
  pub place : length L ≡ m * s.segments + j
  pub within : j < s.segments
  pub first : (i : ℕ) → i < s.segments → i < length L → slice_index s.first i ≡ slice_index L i
  pub here : (i : ℕ) → i < j → slice_index s.latest i ≡ slice_index L (m * s.segments + i)
  pub before : (p i : ℕ) → m ≡ p + 1 → j ≤ i → i < s.segments
      → slice_index s.latest i ≡ slice_index L (p * s.segments + i)
  pub changed : IsChanged s.changed s.segments L m j
  pub rising : IsRising s.segments L
  pub undecided : IsUndecided s.segments L (length L)

-- no shorter list is clean or a borrow
abbrev pub IsFirst : ℕ → List ℕ → Type 0
IsFirst n L = (k : ℕ) → length L ≡ k + 1 → IsUndecided n L k

-- the machine's next step is what the list decides
abbrev pub Says : Machine → List ℕ → Next → Type 0
Says s L (Look j) = IsLooking s L j
Says s L Clean = IsClean s.segments L × AllLow s.segments L (length L) × IsFirst s.segments L
Says s L (Borrow j) = IsBorrow s.segments L j × IsFirst s.segments L

-- the machine represents the list L: it got these numbers, in this order
pub record StandsFor (s : Machine) (L : List ℕ) : Type 0 where
  pub least : 0 < s.segments
  pub most : s.segments ≤ MAX_SEGMENTS
  pub firsts : length s.first ≡ MAX_SEGMENTS
  pub latests : length s.latest ≡ MAX_SEGMENTS
  pub looks : s.looks ≡ length L
  pub says : Says s L s.next

-- the machine may get this number next: it isn't below the last one found for the segment
abbrev pub MayTell : Machine → ℕ → ℕ → Type 0
MayTell s segment number = ∥ ((L : List ℕ) × StandsFor s L × IsNoFall s.segments L segment number) ∥₁

-- the next step, with the machine's places as segments of the set
abbrev pub next_at : ℕ → Next → Next
next_at set (Look p) = Look (slice_index (named set) p)
next_at set Clean = Clean
next_at set (Borrow p) = Borrow (slice_index (named set) p)

-- these are the segments of the set, and the machine has a place for each
pub record IsOf (segments : Segments) (machine : Machine) (set : SegmentSet) : Type 0 where
  pub list : take segments.count segments.list ≡ named set.bits
  pub count : machine.segments ≡ size set.bits
