-- One opening after another.
use Rattle.std.specs.Prelude.{◌≡◌, ℕ, List, length, map, Some, slice_get}
use Rattle.snap_history.specs.History.{Update, IsBeginning}
use Rattle.snap_register.specs.{declared.plan.Plan.Plan, History.starts, Seat.Known}
use Rattle.snap_writer.specs.{Writer.WriterState, Life.resting, Life.IsWriterOf}
use Rattle.snap_restart.specs.{LifeCrash.all_seen, Crash.AllHonest, Crash.GoesOn}
use Rattle.snap_disk.specs.declared.disk.Disk as Disk

module _ {D : Type 0} (disk : Disk.Ghosts D) where
  -- the writers of one opening, in the order of their segments, whatever they have done since
  abbrev pub AreOfOne : Plan → List (WriterState D) → Type 0
  AreOfOne plan writers = (i : ℕ) (w : WriterState D) → slice_get writers i ≡ Some w
      → IsWriterOf disk plan (length writers) i w

  -- The second writers continue where the first ones stopped. From the first ones' start on there
  -- is one history, which begins with all that these and their scanners had seen; then come at most
  -- one update of each writer that was begun and not shown, and the second writers' updates.
  abbrev pub GoOnBehind : List (WriterState D) → List Known → List (WriterState D) → Type 0
  GoOnBehind firsts scanners seconds = AllHonest disk seconds → (plan : Plan) × (next : Plan) × (h : List Update)
      × AreOfOne plan firsts × ((j : ℕ) (seen : List Update)
      → slice_get (all_seen (map (λ (w : WriterState D). resting w) firsts)
      (map (λ (b : Known). b.seen) scanners)) j ≡ Some seen → IsBeginning seen h) × GoesOn disk next (starts plan) h
      (map (λ (w : WriterState D). resting w) firsts) seconds
