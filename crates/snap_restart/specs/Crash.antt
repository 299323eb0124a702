-- How an earlier crash is recovered, by the writers and scanners of an opening once all are back in their store.
use Rattle.std.specs.Prelude.{◌≡◌, ℕ, ◌<◌, ◌≤◌, List, ◌++◌, length, map, Some, slice_get}
use Rattle.snap_register.specs.{Registers.Moment, declared.plan.Plan.Plan, declared.plan.SeatView.SeatView}
use Rattle.snap_register.specs.{History.starts, History.updates, Rule.segments, Rule.Kept, Seat.Known}
use Rattle.snap_history.specs.History.{Update, Start, IsBeginning, updates_of, number_after, value_after}
use Rattle.snap_history.specs.Pairs.{Pairs}
use Rattle.snap_writer.specs.Writer.{WriterState}
use Rattle.snap_writer.specs.Life.{Place, Lived, IsIn, CrashLeaves, IsWriterOf}
use Rattle.snap_restart.specs.LifeCrash.{IsConsistent, Begun, IsRecovered, KeepMemory, Recovers}
use Rattle.snap_restart.specs.LifeLaws.{IsSeatOf}
use mathlib.Core.Option.{some}
use lib.ListN.{get_elem?}
use Rattle.snap_disk.specs.declared.disk.Disk as Disk

module _ {D : Type 0} (disk : Disk.Ghosts D) where
  -- the place is in a life that began with this writer of segment i
  abbrev pub IsLifeFrom : List (WriterState D) → ℕ → Place D → Type 0
  IsLifeFrom writers i p = (a z : WriterState D) × (life : List (WriterState D)) × (slice_get writers i ≡ Some a)
      × Lived disk a life z × IsIn disk z a life p

  -- Whatever these writers do from now on: at any moment of their registers a crash of all devices
  -- is recovered as the memory after the whole history of that moment, of which each seat has seen
  -- a beginning, followed by at most one begun update of each writer.
  abbrev pub AnyMoment : Plan → List (WriterState D) → Type 0
  AnyMoment plan writers = (s : Moment) (kept : Kept plan s)
      (places : List (Place D)) (files : List (List ℕ)) → length places ≡ length writers
      → ((i : ℕ) (p : Place D) → slice_get places i ≡ Some p → IsLifeFrom writers i p × IsSeatOf s.views i p)
      → Pairs (λ _. CrashLeaves disk) places files → ((j : ℕ) (v : SeatView) → get_elem? s.views j ≡ some v
      → IsBeginning (updates v.seen) (updates kept.history))
      × IsRecovered (length writers) (starts plan) (updates kept.history) (Begun places) files

  -- AnyMoment, from an earlier start, after which these writers began with the memory after the base
  abbrev pub AnyMomentAfter : Plan → Start → List Update → List (WriterState D) → Type 0
  AnyMomentAfter plan start base writers = (s : Moment) (kept : Kept plan s)
      (places : List (Place D)) (files : List (List ℕ)) → length places ≡ length writers
      → ((i : ℕ) (p : Place D) → slice_get places i ≡ Some p → IsLifeFrom writers i p × IsSeatOf s.views i p)
      → Pairs (λ _. CrashLeaves disk) places files
      → IsRecovered (length writers) start (base ++ updates kept.history) (Begun places) files

  -- The history continues across a crash: the writers begin with the memory after it and then some of the updates begun
  -- at the crash, at most one of each segment; what they show comes after these.
  pub record GoesOn (plan : Plan) (start : Start) (h : List Update) (crashed : List (Place D))
      (writers : List (WriterState D)) : Type 0 where
    pub more : List Update
    pub were_begun : (j : ℕ) (u : Update) → slice_get more j ≡ Some u
        → (u.segment < length writers) × Begun crashed u.segment u.value
    pub once : (i : ℕ) → updates_of i more ≤ 1
    pub starts_are : (i : ℕ) (w : WriterState D) → slice_get writers i ≡ Some w
        → (w.segment.number ≡ number_after start (h ++ more) i) × (w.segment.value ≡ value_after start (h ++ more) i)
    pub any_moment : AnyMomentAfter plan start (h ++ more) writers

  abbrev pub AllHonest : List (WriterState D) → Type 0
  AllHonest writers = (i : ℕ) (w : WriterState D) → slice_get writers i ≡ Some w → disk.is_honest w.segment.device

  -- all writers were opened at rest, in the order of their segments, and start with what the files
  -- hold; if that is what a crash left, the history before continues
  pub record AreOpened (devices : List D) (writers : List (WriterState D)) : Type 0 where
    pub plan : Plan
    pub all : length writers ≡ segments plan
    pub one_each : length writers ≡ length devices
    pub writers_are : (i : ℕ) (w : WriterState D) → slice_get writers i ≡ Some w
        → IsWriterOf disk plan (length writers) i w
    pub starts_are : (i : ℕ) (w : WriterState D) → slice_get writers i ≡ Some w
        → (w.segment.number ≡ (starts plan i).0) × (w.segment.value ≡ (starts plan i).1)
    pub any_moment : AnyMoment plan writers
    pub again : (start : Start) (h : List Update) (crashed : List (Place D))
        → IsRecovered (length devices) start h (Begun crashed) (map (λ (d : D). (disk.device d).bytes) devices)
        → AllHonest writers → GoesOn plan start h crashed writers

  -- The devices `news` are what became of `olds` during a call: whatever a crash left of them at
  -- times since the call began, each at a time of its own, is the memory that `olds` kept.
  abbrev pub StayKept : List D → List D → Type 0
  StayKept olds news = (n : ℕ) (start : Start) (h : List Update) (crashed : List (Place D))
      (files : List (List ℕ)) → KeepMemory disk n start h (Begun crashed) olds → length olds ≡ length files
      → ((i : ℕ) (d e : D) (b : List ℕ) → slice_get olds i ≡ Some d → slice_get news i ≡ Some e
      → slice_get files i ≡ Some b → disk.is_honest e × disk.might_have_left e (disk.clock d) b)
      → IsRecovered n start h (Begun crashed) files

  -- the place is in a life that led to this writer of segment i
  abbrev pub IsLifeOf : Plan → List (WriterState D) → ℕ → Place D → Type 0
  IsLifeOf plan writers i p = (a z : WriterState D) × (life : List (WriterState D)) × (slice_get writers i ≡ Some z)
      × IsWriterOf disk plan (length writers) i a × Lived disk a life z × IsIn disk z a life p

  -- by some time one of the scanners had seen these updates
  abbrev pub HadSeen : List Known → List Update → Type 0
  HadSeen scanners seen = (k : ℕ) × (b : Known) × (slice_get scanners k ≡ Some b) × IsBeginning seen b.seen

  -- whatever their lives were, each consistent cut through them is recovered
  abbrev pub AnyCut : List Update → List (WriterState D) → List Known → Type 0
  AnyCut h writers scanners = (plan : Plan) (places : List (Place D)) (saw : List (List Update))
      (files : List (List ℕ)) → length places ≡ length writers
      → ((i : ℕ) (p : Place D) → slice_get places i ≡ Some p → IsLifeOf plan writers i p)
      → ((k : ℕ) (seen : List Update) → slice_get saw k ≡ Some seen → HadSeen scanners seen)
      → IsConsistent (starts plan) places saw → Pairs (λ _. CrashLeaves disk) places files
      → Recovers (length places) (starts plan) h places saw files
