-- The records in the buffers that a seat pins.
use Rattle.std.specs.Prelude.{◌≡◌, ◌≢◌, ℕ, ◌+◌, ◌<◌, ◌≤◌, ◌++◌, List, [], ◌∷◌, slice_index, length}
use Rattle.snap_register.specs.History.{entry, look_record, only, start_at, record_words, memory, number, count}
use Rattle.snap_register.specs.Words.{block_at, size_at, value_at, behind, IsBlock}
use Rattle.snap_register.specs.Rule.{segments, width, IsBelow}
use Rattle.snap_register.specs.declared.plan.{Entry.Entry, Plan.Plan, SeatView.SeatView}
use Rattle.snap_register.specs.declared.view.View.{View, TheVariants.Collected, TheVariants.Borrowed}
use Rattle.snap_register.specs.declared.plan.UpdatePhase.TheVariants.{Shown}
use mathlib.Core.List.{IsPrefix}

-- the words of the record that the seat pins on register j
abbrev pub held : SeatView → ℕ → List ℕ
held v j = record_words v.plan v.seen j (slice_index v.records j)

-- the record fits a buffer, and has its number and a value
pub record Readable (p : Plan) (h : List Entry) (j r : ℕ) : Type 0 where
  pub own : IsBlock (record_words p h j r) 0 ((start_at p j).number + r) (value_at (record_words p h j r) 0)
  pub fits : length (record_words p h j r) ≤ width p

-- the entry of segment i in the view of that record
abbrev pub view_in : List ℕ → ℕ → ℕ × List ℕ
view_in ws i = block_at ws (behind ws (size_at ws 0) i)

-- the memory that an update of this seat carries
abbrev pub taken : SeatView → View → ℕ → ℕ × List ℕ
taken v Collected = λ i. block_at (held v i) 0
taken v (Borrowed j) = view_in (held v j)

-- the buffers are pinned from which that memory is taken
abbrev pub CanTake : SeatView → View → Type 0
CanTake v Collected = (i : ℕ) → i < segments v.plan → 0 < slice_index v.pins i
CanTake v (Borrowed j) = (j < segments v.plan) × (0 < slice_index v.pins j) × (0 < slice_index v.records j)

-- it is the memory after a beginning of what was seen that has all updates of segment i
abbrev pub MayTake : SeatView → ℕ → View → Type 0
MayTake v i Collected = (part : List Entry) × IsPrefix part v.seen × (count i part ≡ count i v.seen)
    × ((k : ℕ) → k < segments v.plan → block_at (held v k) 0 ≡ memory v.plan part k)
MayTake v i (Borrowed j) = (part : List Entry) → IsPrefix part v.seen
    → number v.plan part j + 1 ≡ (start_at v.plan j).number + slice_index v.records j → count i part ≡ count i v.seen

-- the pin on j is of its last record, and the pins on other registers stay
pub record IsPinned (v w : SeatView) (j : ℕ) : Type 0 where
  pub pinned : 0 < slice_index w.pins j
  pub last : slice_index w.records j ≡ count j w.seen
  pub others : (i : ℕ) → i ≢ j → (slice_index w.pins i ≡ slice_index v.pins i)
      × (slice_index w.records i ≡ slice_index v.records i)

-- the last update seen is that of segment i to this value, under number k; else only the pool and the phase changed
pub record IsShown (v w : SeatView) (i k : ℕ) (value : List ℕ) : Type 0 where
  pub same : w ≡ record v { seen = w.seen; pool = w.pool; phase = Shown }
  pub between : List Entry
  pub words : List ℕ
  pub seen : w.seen ≡ (v.seen ++ between) ++ entry i words ∷ []
  pub others : only i between ≡ []
  pub value_is : value_at words 0 ≡ value
  pub number_is : number w.plan w.seen i ≡ k
  pub below : IsBelow w.plan w.seen

-- a look changes what was seen, the pins and the looks left, and is appended to the list of looks
abbrev pub HasLookedFrom : SeatView → SeatView → Type 0
HasLookedFrom v w = w ≡ record v {
  seen = w.seen;
  received = [];
  seen_end = v.high;
  left = w.left;
  pins = w.pins;
  records = w.records;
  look_records = v.look_records ++ look_record w.seen ∷ [];
}
