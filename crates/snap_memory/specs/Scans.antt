-- The answers of scans, in terms of what the seat had seen before and has seen afterwards.
use Rattle.std.specs.Prelude.{◌≡◌, ℕ, ◌+◌, ◌-◌, ◌^◌, ◌<◌, ◌≤◌, ◌⊎◌, List, ◌∷◌, ◌++◌, length, Some, slice_get}
use Rattle.snap_history.specs.History.{Update, IsBeginning}
use Rattle.snap_register.specs.Seat.{Known, Grows, looked, number_in, value_in, HasFoundUpdate, IsMemory, IsMemoryOf}
use Rattle.snap_register.specs.Seat.{IsValue}
use Rattle.snap_register.specs.Rule.{segments}
use Rattle.snap_register.specs.declared.view.View.{View, TheVariants.Collected, TheVariants.Borrowed}
use Rattle.snap_disk.specs.declared.refusal.Refusal.{Refusal, TheVariants.NoMemory, TheVariants.Worn}
use Rattle.snap_scan.specs.Sets.{Names, IsAt, size}
use Rattle.snap_scan.specs.Looks.{most_looks}

-- the scan made looks, and the list begins with what the seat had seen at the first of them
pub record BeginsFresh (before after : Known) (part : List Update) : Type 0 where
  pub first : List Update
  pub later : List (List Update)
  pub looks : after.look_records ≡ before.look_records ++ first ∷ later
  pub begins : IsBeginning first part

-- the set of all segments
abbrev pub all_of : Known → ℕ
all_of seat = 2 ^ segments seat.plan - 1

-- the named segments' last looks found the numbers after `part`, a list that begins with what the seat had seen before
-- and at the scan's first look, and that is a beginning of what it has seen afterwards
pub record IsCleanScan (set : ℕ) (before after : Known) : Type 0 where
  pub part : List Update
  pub begins : IsBeginning before.seen part
  pub fresh : BeginsFresh before after part
  pub within : IsBeginning part after.seen
  pub each : (i : ℕ) → i < segments after.plan → Names set i → looked after i ≡ Some (number_in after part i)

-- the last look at j found an update. Each beginning of what the seat has seen afterwards that lacks only that update
-- of j begins with what the seat had seen before and at the scan's first look
pub record IsBorrowedScan (before after : Known) (j : ℕ) : Type 0 where
  pub inside : j < segments after.plan
  pub found : HasFoundUpdate after j
  pub begins : (part : List Update) → IsBeginning part after.seen
      → looked after j ≡ Some (number_in after part j + 1) → IsBeginning before.seen part
  pub fresh : (part : List Update) → IsBeginning part after.seen
      → looked after j ≡ Some (number_in after part j + 1) → BeginsFresh before after part

-- the scan of the named segments may be answered from this view
abbrev pub IsScan : ℕ → Known → Known → View → Type 0
IsScan set before after Collected = IsCleanScan set before after
IsScan set before after (Borrowed j) = IsBorrowedScan before after j

-- the memory after `part`, a list that begins with what the seat had seen before and at the scan's
-- first look, and that is a beginning of what it has seen afterwards
pub record IsSnapshot (before after : Known) (memory : List (ℕ × List ℕ)) : Type 0 where
  pub part : List Update
  pub begins : IsBeginning before.seen part
  pub fresh : BeginsFresh before after part
  pub within : IsBeginning part after.seen
  pub is_memory : IsMemory after part memory

-- the numbers and values of the named segments, in ascending order, after a list as in IsSnapshot
pub record IsPart (set : ℕ) (before after : Known) (values : List (ℕ × List ℕ)) : Type 0 where
  pub part : List Update
  pub begins : IsBeginning before.seen part
  pub fresh : BeginsFresh before after part
  pub within : IsBeginning part after.seen
  pub size : length values ≡ size set
  pub each : (p i : ℕ) → IsAt set p i → slice_get values p ≡ Some (number_in after part i, value_in after part i)

-- `memory`, which has a place for every segment, has the numbers and values of the named ones after
-- a list as in IsSnapshot
pub record HasPart (set : ℕ) (before after : Known) (memory : List (ℕ × List ℕ)) : Type 0 where
  pub part : List Update
  pub begins : IsBeginning before.seen part
  pub fresh : BeginsFresh before after part
  pub within : IsBeginning part after.seen
  pub is_memory : IsMemoryOf after set part memory

-- the entries of segments that aren't named stay
abbrev pub KeepsOthers : ℕ → List (ℕ × List ℕ) → List (ℕ × List ℕ) → Type 0
KeepsOthers set before after = (i : ℕ) → (Names set i → ⊥) → slice_get after i ≡ slice_get before i

-- the set names at least one segment, and only those of the seat's registers
pub record IsSetOf (seat : Known) (set : ℕ) : Type 0 where
  pub some : 0 < set
  pub among : set < 2 ^ segments seat.plan

-- the seat has enough looks left for a scan of `count` segments
abbrev pub HasLooks : ℕ → Known → Type 0
HasLooks count seat = most_looks count ≤ seat.left

-- the seat has enough looks left for a scan of all segments
abbrev pub CanScan : Known → Type 0
CanScan seat = HasLooks (segments seat.plan) seat

-- the scan used up looks, and no more than a scan of `count` segments might
pub record TakesLooksOf (count : ℕ) (before after : Known) : Type 0 where
  pub some : after.left < before.left
  pub few : before.left ≤ after.left + most_looks count

-- the scan used up looks, and no more than a scan of all segments might
abbrev pub TakesLooks : Known → Known → Type 0
TakesLooks before after = TakesLooksOf (segments before.plan) before after

-- why a scan of `count` segments may be refused: memory ran out, before its first look or after its
-- last; or too few looks were left, and nothing changed
abbrev pub MayRefuse : ℕ → Known → Refusal → Known → Type 0
MayRefuse count before why after =
    ((why ≡ NoMemory) × ((after ≡ before) ⊎ (Grows before after × TakesLooksOf count before after)))
    ⊎ ((why ≡ Worn) × (before.left < most_looks count) × (after ≡ before))

-- the list has the number that each named segment's last look found, and the value of its record
pub record AreLooked (set : ℕ) (seat : Known) (memory : List (ℕ × List ℕ)) : Type 0 where
  pub size : length memory ≡ segments seat.plan
  pub each : (i : ℕ) → i < segments seat.plan → Names set i
      → (x : ℕ × List ℕ) × (slice_get memory i ≡ Some x) × (looked seat i ≡ Some x.0) × IsValue seat i x.1
