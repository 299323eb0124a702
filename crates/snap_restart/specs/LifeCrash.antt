-- A crash that finds each writer and each scanner at some place, and what it leaves.
use Rattle.std.specs.Prelude.{◌≡◌, ◌⊎◌, ℕ, ◌+◌, ◌<◌, ◌≤◌, List, ◌++◌, length, map, Some, slice_get}
use Rattle.snap_disk.specs.Device.{MayLeave}
use Rattle.snap_slot.specs.Layout.{IsFileOf}
use Rattle.snap_history.specs.History.{Update, Start, IsBeginning, updates_of, number_after, value_after}
use Rattle.snap_history.specs.Pairs.{Pairs}
use Rattle.snap_register.specs.declared.plan.UpdatePhase.{UpdatePhase}
use Rattle.snap_register.specs.declared.plan.UpdatePhase.TheVariants.{Shown, Storing, Stored}
use Rattle.snap_writer.specs.Life.{Place, HasBegun, seen_at}
use Rattle.snap_disk.specs.declared.disk.Disk as Disk

-- what each seat has seen by then: the writers', then the scanners'
abbrev pub all_seen : {D : Type 0} → List (Place D) → List (List Update) → List (List Update)
all_seen writers scanners = map seen_at writers ++ scanners

-- nobody has seen an update that its writer hasn't shown
abbrev pub IsConsistent : {D : Type 0} → Start → List (Place D) → List (List Update) → Type 0
IsConsistent {D} start writers scanners =
    (j : ℕ) (seen : List Update) → slice_get (all_seen writers scanners) j ≡ Some seen
    → (i : ℕ) (p : Place D) → slice_get writers i ≡ Some p
    → number_after start seen i ≤ number_after start (seen_at p) i

-- the writer of segment i has begun an update to v
abbrev pub Begun : {D : Type 0} → List (Place D) → ℕ → List ℕ → Type 0
Begun {D} writers i v = (p : Place D) × (slice_get writers i ≡ Some p) × HasBegun p v

-- the bytes of segment i's file, of n, by the phase of its writer's seat, if number k and value u were shown last: they
-- have these; or these or the next number with a value that was begun; or the latter
module _ (i n k : ℕ) (u : List ℕ) (begun : List ℕ → Type 0) (b : List ℕ) where
  abbrev pub HoldsNext : Type 0
  HoldsNext = (v : List ℕ) × begun v × IsFileOf i n (k + 1) v b

  abbrev pub HoldsIn : UpdatePhase → Type 0
  HoldsIn Shown = IsFileOf i n k u b
  HoldsIn Storing = IsFileOf i n k u b ⊎ HoldsNext
  HoldsIn Stored = HoldsNext

-- segment i had number k and value v at some moment of the history, perhaps at its start
abbrev pub Has : Start → List Update → ℕ → ℕ → List ℕ → Type 0
Has start h i k v = (part : List Update) × IsBeginning part h
    × (k ≡ number_after start part i) × (v ≡ value_after start part i)

-- these files hold the memory of n segments after the history and then some of the begun updates,
-- at most one of each segment
pub record IsRecovered (n : ℕ) (start : Start) (h : List Update) (begun : ℕ → List ℕ → Type 0)
    (files : List (List ℕ)) : Type 0 where
  pub begun_too : List Update
  pub were_begun : (j : ℕ) (u : Update) → slice_get begun_too j ≡ Some u → (u.segment < n) × begun u.segment u.value
  pub once : (i : ℕ) → updates_of i begun_too ≤ 1
  pub size : length files ≡ n
  pub holds : (i : ℕ) (b : List ℕ) → slice_get files i ≡ Some b → IsFileOf i n (number_after start (h ++ begun_too) i)
      (value_after start (h ++ begun_too) i) b

-- whatever a crash leaves of these devices is the memory after the history and then some begun updates
abbrev pub KeepMemory : {D : Type 0} → Disk.Ghosts D → ℕ → Start → List Update → (ℕ → List ℕ → Type 0) → List D → Type 0
KeepMemory disk n start h begun devices = (files : List (List ℕ))
    → Pairs (λ _ d b. MayLeave (disk.device d) b) devices files → IsRecovered n start h begun files

-- the crash is recovered as the memory after a beginning of the history, followed by some begun
-- updates. Somebody had seen this beginning, and it begins with all that anybody had seen. It has
-- each update of the history that its writer had shown
pub record Recovers {D : Type 0} (n : ℕ) (start : Start) (h : List Update)
    (writers : List (Place D)) (scanners : List (List Update)) (files : List (List ℕ))
    : Type 0 where
  pub visible : List Update
  pub within : IsBeginning visible h
  pub seen_by : (j : ℕ) × (slice_get (all_seen writers scanners) j ≡ Some visible)
  pub all_visible : (j : ℕ) (seen : List Update)
      → slice_get (all_seen writers scanners) j ≡ Some seen → IsBeginning seen visible
  pub acknowledged : (i k : ℕ) (v : List ℕ) (p : Place D) → slice_get writers i ≡ Some p
      → Has start h i k v → k ≤ number_after start (seen_at p) i → Has start visible i k v
  pub recovered : IsRecovered n start visible (Begun writers) files
