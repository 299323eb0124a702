-- A scan in progress and a register, as parts of a history.
use Rattle.std.specs.Prelude.{◌≡◌, ℕ, ◌+◌, ◌^◌, ◌<◌, ◌≤◌, List, [], length, map, take, get_or, slice_get, Option, Some}
use Rattle.std.specs.Prelude.{None}
use Rattle.snap_history.specs.History.{Update, from_nothing, number_after, value_after, IsMemory}
use Rattle.snap_history.specs.Pairs.{Pairs}
use Rattle.snap_scan.{specs.Course.IsNext, specs.declared.next.Next.Next, specs.Collects.Collects}
use Rattle.snap_scan.specs.Sets.{named, size, IsAt}
use Rattle.snap_scan.specs.declared.next.Next.TheVariants.{Look, Clean, Borrow}
use Rattle.snap_world.specs.Answers.{ScanState, IsAnswer, number_at, value_at, numbers_of, values_of}
use Rattle.snap_world.specs.Machine.{State, IsLook}
use Rattle.snap_world.specs.declared.{register.Register.Register, collector.Collector.Collector}

-- the memory's value of segment i, alone and with the segment
abbrev pub value_in : List (List ℕ) → ℕ → List ℕ
value_in memory i = get_or memory i []

abbrev pub entry_in : List (List ℕ) → ℕ → ℕ × List ℕ
entry_in memory i = (i, value_in memory i)

-- the memory's values at the places of the set
abbrev pub picked : ℕ → List (List ℕ) → List (List ℕ)
picked set memory = map (value_in memory) (named set)

-- the memory has each segment of the set as it was at moment p
abbrev pub IsSeen : ℕ → List Update → List (List ℕ) → ℕ → Type 0
IsSeen set h memory p = (place i : ℕ) → IsAt set place i → slice_get memory i ≡ Some (value_at h p i)

abbrev pub Gathered : ℕ → List Update → ScanState → List (List ℕ) → Next → Type 0
Gathered set h s memory (Look j) =
    Collects (List ℕ) (size set) (numbers_of set h) (values_of set h) s.start s.last s.told
    (picked set memory) × (s.moment ≡ None)
Gathered set h s memory Clean = IsAnswer set h s (IsSeen set h memory)
Gathered set h s memory (Borrow j) = IsAnswer set h s (IsSeen set h memory)

-- the collector, which has a value for each of n segments, represents the scan s of a set of them
pub record Gathers (n set : ℕ) (h : List Update) (s : ScanState) (c : Collector) : Type 0 where
  pub set_is : c.scan.set ≡ set
  pub among : set < 2 ^ n
  pub told : c.scan.told ≡ s.told
  pub next : IsNext set s.told c.scan.next
  pub size : length c.memory.items ≡ n
  pub start : s.start ≤ s.last
  pub end : s.last ≤ length h
  pub gathered : Gathered set h s c.memory.items c.scan.next

-- the scan has a look to make
abbrev pub IsUnderWay : Collector → Type 0
IsUnderWay c = (j : ℕ) × (c.scan.next ≡ Look j)

-- the register has the number and value of its segment after the history
pub record RegisterStands (n : ℕ) (h : List Update) (i : ℕ) (r : Register) : Type 0 where
  pub number : r.number ≡ number_after from_nothing h i
  pub value : r.value ≡ value_after from_nothing h i
  pub size : length r.view.items ≡ n

-- the view beside the register's update is the memory at moment p, when that update was the next one of its segment
pub record IsView (n : ℕ) (h : List Update) (i : ℕ) (r : Register) (p : ℕ) : Type 0 where
  pub until : p ≤ length h
  pub before : number_at h p i + 1 ≡ r.number
  pub is_memory : IsMemory n from_nothing (take p h) r.view.items

-- The view is the memory at the very moment that the machine keeps of the update, and it keeps one
-- of each update shown since moment g, when the node last began to serve.
pub record ViewStands (n : ℕ) (h : List Update) (g i : ℕ) (r : Register)
    (view : Option ℕ) : Type 0 where
  pub kept : number_at h g i < r.number → (p : ℕ) × (view ≡ Some p)
  pub is_view : (p : ℕ) → view ≡ Some p → IsView n h i r p

pub record RegistersStand (n : ℕ) (x : State) (g : ℕ) (rs : List Register) : Type 0 where
  pub size : length rs ≡ n
  pub each : (i : ℕ) (r : Register) → slice_get rs i ≡ Some r → RegisterStands n x.history i r
  pub views : Pairs (λ i r s. ViewStands n x.history g i r s.view) rs x.writers

-- the registers and the scan represent some state
abbrev pub MayLook : List Register → Collector → Type 0
MayLook rs c = ∥ ((n set : ℕ) × (x : State) × (g : ℕ) × (s : ScanState)
    × (g ≤ s.start) × RegistersStand n x g rs × Gathers n set x.history s c) ∥₁

-- The look returned this number: whichever state and scan the registers and the collector
-- represented, it is a look of the abstract machine, to a scan that the collector represents now.
abbrev pub IsLookOf : List Register → Collector → ℕ → Collector → Type 0
IsLookOf rs old number new = (n set : ℕ) (x : State) (g : ℕ) (s : ScanState)
    → g ≤ s.start → RegistersStand n x g rs → Gathers n set x.history s old
    → (t : ScanState) × IsLook set x s number t × Gathers n set x.history t new
