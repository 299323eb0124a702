-- The model of a seat, for its callers.
use Rattle.std.specs.Prelude.{◌≡◌, ◌≢◌, ℕ, ◌+◌, ◌<◌, ◌≤◌, ◌==◌, Option, Some, None, cond, List, [], ◌∷◌, ◌++◌, length}
use Rattle.std.specs.Prelude.{map, slice_index, slice_get}
use Rattle.snap_register.specs.declared.view.View.TheVariants.{Collected, Borrowed}
use Rattle.snap_register.specs.History.{starts, updates, start_at}
use Rattle.snap_register.specs.{Registers.RegistersId, declared.plan.Plan.Plan, declared.plan.SeatView.SeatView}
use Rattle.snap_register.specs.{declared.plan.UpdatePhase.UpdatePhase}
use Rattle.snap_register.specs.declared.plan.UpdatePhase.TheVariants.{Shown, Stored}
use Rattle.snap_register.specs.{declared.view.View.View, Rule.segments}
use Rattle.snap_history.specs.History.{Update, IsBeginning, number_after, value_after, updates_of}
use Rattle.snap_history.specs.Limits.{IsNumber}
use Rattle.snap_scan.specs.Sets.{Names}

-- the table and its plan; the updates that the seat has seen; the segments that it writes, from `low` on and below
-- `high`; which buffers and records its last looks found; how many looks it has left; what it had seen at each of its
-- looks, in order; and how far its writer's file is ahead of what it has shown
pub record Known : Type 0 where
  pub table : RegistersId
  pub plan : Plan
  pub seen : List Update
  pub low : ℕ
  pub high : ℕ
  pub pins : List ℕ
  pub records : List ℕ
  pub left : ℕ
  pub look_records : List (List Update)
  pub phase : UpdatePhase

abbrev pub known : RegistersId → SeatView → Known
known z v = record {
  table = z;
  plan = v.plan;
  seen = updates v.seen;
  low = v.low;
  high = v.high;
  pins = v.pins;
  records = v.records;
  left = v.left;
  look_records = map (λ s. updates s.seen) v.look_records;
  phase = v.phase;
}

-- the number that the last look at segment j found
abbrev pub looked : Known → ℕ → Option ℕ
looked a j = cond (slice_index a.pins j == 0) None (Some ((start_at a.plan j).number + slice_index a.records j))

-- the segment that a writer's seat writes
abbrev pub own_of : Known → ℕ
own_of a = a.low

-- the number and the value of segment i after the updates h
abbrev pub number_in : Known → List Update → ℕ → ℕ
number_in a h i = number_after (starts a.plan) h i

abbrev pub value_in : Known → List Update → ℕ → List ℕ
value_in a h i = value_after (starts a.plan) h i

-- all numbers among what was seen are valid
abbrev pub IsBelow : Known → Type 0
IsBelow a = (i : ℕ) → i < segments a.plan → IsNumber (number_in a a.seen i)

-- the seats are of one opening
pub record AreTogether (a b : Known) : Type 0 where
  pub table : b.table ≡ a.table
  pub plan : b.plan ≡ a.plan

-- the seat has seen more updates, after those it had seen, and none of its own segment
pub record Grows (a b : Known) : Type 0 where
  pub table : b.table ≡ a.table
  pub plan : b.plan ≡ a.plan
  pub low : b.low ≡ a.low
  pub high : b.high ≡ a.high
  pub later : IsBeginning a.seen b.seen
  pub own : (i : ℕ) → a.low ≤ i → i < a.high → number_in a b.seen i ≡ number_in a a.seen i
  pub phase : b.phase ≡ a.phase

-- the seat has seen more, and nothing else changed: no look was made, and the earlier looks stay
pub record Meets (a b : Known) : Type 0 where
  pub grows : Grows a b
  pub looks : (i : ℕ) → looked b i ≡ looked a i
  pub left : b.left ≡ a.left
  pub look_records : b.look_records ≡ a.look_records

-- the last look of segment j found this number; those of other segments stay
pub record Looks (a b : Known) (j number : ℕ) : Type 0 where
  pub here : looked b j ≡ Some number
  pub others : (i : ℕ) → i ≢ j → looked b i ≡ looked a i

-- the seat has looked at j
abbrev pub HasLooked : Known → ℕ → Type 0
HasLooked a j = looked a j ≢ None

-- the last look of segment j found an update, not the start
pub record HasFoundUpdate (a : Known) (j : ℕ) : Type 0 where
  pub told : ℕ
  pub is : looked a j ≡ Some told
  pub above : (starts a.plan j).0 < told

-- the value is that of segment j's last look: the value after a beginning of what was seen in which
-- j has the number found
pub record IsValue (a : Known) (j : ℕ) (value : List ℕ) : Type 0 where
  pub part : List Update
  pub beginning : IsBeginning part a.seen
  pub number : looked a j ≡ Some (number_in a part j)
  pub value_is : value ≡ value_in a part j

-- the list has each segment's number and value after the updates `part`
pub record IsMemory (a : Known) (part : List Update) (xs : List (ℕ × List ℕ)) : Type 0 where
  pub size : length xs ≡ segments a.plan
  pub each : (i : ℕ) → i < segments a.plan → slice_get xs i ≡ Some (number_in a part i, value_in a part i)

-- the list has the number and value of each named segment after the updates `part`
pub record IsMemoryOf (a : Known) (set : ℕ) (part : List Update) (xs : List (ℕ × List ℕ)) : Type 0 where
  pub size : length xs ≡ segments a.plan
  pub each : (i : ℕ) → i < segments a.plan → Names set i → slice_get xs i ≡ Some (number_in a part i, value_in a part i)

-- the list has the memory of the named segments after a beginning of what was seen in which j's
-- number is one below that of the last look
pub record IsView (a : Known) (j set : ℕ) (xs : List (ℕ × List ℕ)) : Type 0 where
  pub part : List Update
  pub beginning : IsBeginning part a.seen
  pub before : looked a j ≡ Some (number_in a part j + 1)
  pub memory : IsMemoryOf a set part xs

-- all last looks found the numbers after a beginning of what was seen that has all updates of the seat's own segment
pub record IsCollected (a : Known) : Type 0 where
  pub part : List Update
  pub beginning : IsBeginning part a.seen
  pub whole : number_in a part (own_of a) ≡ number_in a a.seen (own_of a)
  pub each : (i : ℕ) → i < segments a.plan → looked a i ≡ Some (number_in a part i)

-- the last look at j found an update, and a beginning of what was seen that lacks only that update
-- of j has all updates of the seat's own segment
pub record IsBorrowed (a : Known) (j : ℕ) : Type 0 where
  pub inside : j < segments a.plan
  pub found : HasFoundUpdate a j
  pub whole : (part : List Update) → IsBeginning part a.seen → looked a j ≡ Some (number_in a part j + 1)
      → number_in a part (own_of a) ≡ number_in a a.seen (own_of a)

-- an update of this seat may carry this view
abbrev pub MayPublish : Known → View → Type 0
MayPublish a Collected = IsCollected a
MayPublish a (Borrowed j) = IsBorrowed a j

-- the last update that the seat has seen is that of its own segment to this value; it was stored before
pub record Shows (a b : Known) (value : List ℕ) : Type 0 where
  pub table : b.table ≡ a.table
  pub plan : b.plan ≡ a.plan
  pub low : b.low ≡ a.low
  pub high : b.high ≡ a.high
  pub looks : (i : ℕ) → looked b i ≡ looked a i
  pub left : b.left ≡ a.left
  pub look_records : b.look_records ≡ a.look_records
  pub between : List Update
  pub seen : b.seen ≡ (a.seen ++ between) ++ record { segment = own_of a; value = value } ∷ []
  pub others : updates_of (own_of a) between ≡ 0
  pub stored : a.phase ≡ Stored
  pub phase : b.phase ≡ Shown
