-- A crash that finds two writers at work.
use Rattle.std.specs.Prelude.{◌≡◌, ℕ, List, []}
use Rattle.snap_history.specs.Pairs.{Pairs}
use Rattle.snap_register.specs.{declared.plan.Plan.Plan, History.starts}
use Rattle.snap_writer.specs.Writer.{WriterState}
use Rattle.snap_register.specs.declared.plan.UpdatePhase.TheVariants.{Storing}
use Rattle.snap_segment.specs.Segment.{SegmentState}
use Rattle.snap_writer.specs.Life.{Place, resting, in_store, CrashLeaves, IsWriterOf}
use Rattle.snap_restart.specs.LifeCrash.{Recovers}
use Rattle.snap_disk.specs.declared.disk.Disk as Disk

-- the writer has noted that a store begins
abbrev pub noting : {D : Type 0} → WriterState D → SegmentState D → WriterState D
noting w s = record { segment = s; seat = record w.seat { phase = Storing } }

-- its store of v is in progress, with this device by now
abbrev pub in_its_store : {D : Type 0} → WriterState D → List ℕ → D → Place D
in_its_store w v d = in_store (noting w w.segment) v d

-- the writer's update is stored, or its store has failed, and it isn't shown: the segment after the
-- update, with the seat before it
abbrev pub stored_unshown : {D : Type 0} → WriterState D → WriterState D → Place D
stored_unshown old new = resting (noting old new.segment)

module _ {D : Type 0} (disk : Disk.Ghosts D) where
  -- the writers of both segments of one opening; nobody has shown an update
  pub record AreTwo (first second : WriterState D) : Type 0 where
    pub first_is : IsWriterOf disk first.seat.plan 2 0 first
    pub second_is : IsWriterOf disk first.seat.plan 2 1 second
    pub first_fresh : first.seat.seen ≡ []
    pub second_fresh : second.seat.seen ≡ []

  -- a crash that finds the writers at these places is recovered
  abbrev pub IsRecoveredAt : Plan → List (Place D) → Type 0
  IsRecoveredAt plan places = (files : List (List ℕ)) → Pairs (λ _. CrashLeaves disk) places files
      → Recovers 2 (starts plan) [] places [] files
