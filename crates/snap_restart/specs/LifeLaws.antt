-- Laws of a crash of all devices, for any type D of device. `Disk.Ghosts D` has the ghost items of
-- the trait `Disk` for it.
use Rattle.std.specs.Prelude.{◌≡◌, ℕ, ◌<◌, List, length, Some, slice_get}
use Rattle.snap_register.specs.Rule.{segments, IsWriter, Kept}
use Rattle.snap_register.specs.{Registers.Moment, declared.plan.Plan.Plan, declared.plan.SeatView.SeatView}
use Rattle.snap_register.specs.{History.starts, History.updates, Seat.Known, Seat.IsMemory}
use Rattle.snap_history.specs.History.{Update, IsBeginning, number_after, value_after}
use Rattle.snap_history.specs.Pairs.{Pairs}
use Rattle.snap_memory.specs.Scans.{IsSnapshot}
use Rattle.snap_writer.specs.Writer.{WriterState, number_of, value_of}
use Rattle.snap_writer.specs.Life.{Place, HasBegun, seen_at, Lived, IsIn, CrashLeaves, IsWriterOf, IsPlaceOf}
use Rattle.snap_restart.specs.LifeCrash.{HoldsIn, IsConsistent, Begun, IsRecovered, Recovers}
use mathlib.Core.Option.{some}
use lib.ListN.{get_elem?}
use Rattle.snap_disk.specs.declared.disk.Disk as Disk

module _ {D : Type 0} (disk : Disk.Ghosts D) where
  -- at each place of a writer's life its device and its seat agree
  abbrev pub Lives : Type 0
  Lives = (plan : Plan) (n i : ℕ) (a z : WriterState D) (life : List (WriterState D)) (p : Place D)
      → IsWriterOf disk plan n i a → Lived disk a life z → IsIn disk z a life p → IsPlaceOf disk plan n i p
      × IsBeginning a.seat.seen (seen_at p) × IsBeginning (seen_at p) z.seat.seen

  -- the place is in a life of the writer of segment i of n, which has seen no more than the history h
  abbrev pub IsLivedIn : Plan → ℕ → List Update → ℕ → Place D → Type 0
  IsLivedIn plan n h i p = (a z : WriterState D) × (life : List (WriterState D)) × IsWriterOf disk plan n i a
      × Lived disk a life z × IsIn disk z a life p × IsBeginning z.seat.seen h

  -- a consistent cut through the lives of all writers and scanners is recovered
  abbrev pub CutLaw : Type 0
  CutLaw = (plan : Plan) (h : List Update) (writers : List (Place D))
      (scanners : List (List Update)) (files : List (List ℕ)) → 0 < length writers
      → ((i : ℕ) (p : Place D) → slice_get writers i ≡ Some p → IsLivedIn plan (length writers) h i p)
      → ((k : ℕ) (seen : List Update) → slice_get scanners k ≡ Some seen → IsBeginning seen h)
      → IsConsistent (starts plan) writers scanners → Pairs (λ _. CrashLeaves disk) writers files
      → Recovers (length writers) (starts plan) h writers scanners files

-- the value of segment i in this list
abbrev pub IsOf : List (List ℕ) → ℕ → List ℕ → Type 0
IsOf values i v = slice_get values i ≡ Some v

-- The registers say at any moment what the files may hold: if each has what the phase of its writer's seat says, that
-- is the memory after the whole history of the moment and then some of these begun values, at most one of each segment.
abbrev pub InstantLaw : Type 0
InstantLaw = (plan : Plan) (s : Moment) (kept : Kept plan s) (begun : List (List ℕ)) (files : List (List ℕ))
    → length files ≡ segments plan → ((i : ℕ) (b : List ℕ) → slice_get files i ≡ Some b
    → (j : ℕ) × (v : SeatView) × (get_elem? s.views j ≡ some v) × IsWriter v i
    × HoldsIn i (segments plan) (number_after (starts plan) (updates v.seen) i)
    (value_after (starts plan) (updates v.seen) i) (IsOf begun i) b v.phase)
    → IsRecovered (segments plan) (starts plan) (updates kept.history) (IsOf begun) files

-- a seat of the table writes segment i and has seen what the place says
abbrev pub IsSeatOf : {D : Type 0} → List SeatView → ℕ → Place D → Type 0
IsSeatOf {D} views i p = (j : ℕ) × (v : SeatView) × (get_elem? views j ≡ some v) × IsWriter v i
    × (seen_at p ≡ updates v.seen)

-- a seat of the table has seen these updates
abbrev pub IsSeenIn : List SeatView → List Update → Type 0
IsSeenIn views seen = (j : ℕ) × (v : SeatView) × (get_elem? views j ≡ some v) × (seen ≡ updates v.seen)

-- a moment of the registers is a consistent cut: nobody has seen an update that its writer hasn't shown
abbrev pub ConsistentLaw : Type 0 → Type 0
ConsistentLaw D = (plan : Plan) (s : Moment) → Kept plan s → (writers : List (Place D)) (scanners : List (List Update))
    → ((i : ℕ) (p : Place D) → slice_get writers i ≡ Some p → IsSeatOf s.views i p)
    → ((k : ℕ) (seen : List Update) → slice_get scanners k ≡ Some seen → IsSeenIn s.views seen)
    → IsConsistent (starts plan) writers scanners

-- the result of a scan is the memory after a beginning of each history that begins with what its seat has seen
abbrev pub ScanLaw : Type 0
ScanLaw = (before after : Known) (memory : List (ℕ × List ℕ)) (visible : List Update)
    → IsSnapshot before after memory → IsBeginning after.seen visible
    → (part : List Update) × IsBeginning part visible × IsMemory after part memory

module _ {D : Type 0} (disk : Disk.Ghosts D) where
  -- at each place of its life a crash leaves of a writer's device what the phase of its seat says
  abbrev pub PhasesLaw : Type 0
  PhasesLaw = (plan : Plan) (n i : ℕ) (p : Place D) (b : List ℕ) → IsPlaceOf disk plan n i p → CrashLeaves disk p b
      → HoldsIn i n (number_of p.writer) (value_of p.writer) (HasBegun p) b p.writer.seat.phase

  -- at any moment of the registers a crash is recovered as the memory after the whole history of
  -- that moment, of which each seat has seen a beginning
  abbrev pub MomentLaw : Type 0
  MomentLaw = (plan : Plan) (s : Moment) (kept : Kept plan s) (writers : List (Place D)) (files : List (List ℕ))
      → length writers ≡ segments plan → ((i : ℕ) (p : Place D) → slice_get writers i ≡ Some p
      → IsPlaceOf disk plan (segments plan) i p × IsSeatOf s.views i p) → Pairs (λ _. CrashLeaves disk) writers files
      → ((j : ℕ) (v : SeatView) → get_elem? s.views j ≡ some v → IsBeginning (updates v.seen) (updates kept.history))
      × IsRecovered (segments plan) (starts plan) (updates kept.history) (Begun writers) files
