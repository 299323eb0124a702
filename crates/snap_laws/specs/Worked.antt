-- A crash of all devices that were returned by closing, and such devices in any number of starts.
use Rattle.std.specs.Prelude.{◌≡◌, ℕ, List, [], length, map, Some, slice_get}
use Rattle.snap_disk.specs.Device.{MayLeave}
use Rattle.snap_history.specs.{History.Update, History.Start, Pairs.Pairs}
use Rattle.snap_register.specs.{declared.plan.Plan.Plan, History.starts, Seat.Known}
use Rattle.snap_writer.specs.{Writer.WriterState, Life.resting}
use Rattle.snap_restart.specs.{LifeCrash.Recovers, Restarts.Restarts}
use Rattle.snap_disk.specs.declared.disk.Disk as Disk

module _ {D : Type 0} (disk : Disk.Ghosts D) where
  abbrev pub IsLeft : ℕ → D → List ℕ → Type 0
  IsLeft i d b = disk.is_honest d × MayLeave (disk.device d) b

  -- there are writers and scanners that had these devices, and what a crash leaves of all devices is recovered
  pub record IsRecoveredNow (devices : List D) : Type 0 where
    pub plan : Plan
    pub history : List Update
    pub writers : List (WriterState D)
    pub scanners : List Known
    pub theirs : devices ≡ map (λ (w : WriterState D). w.segment.device) writers
    pub recovered : (files : List (List ℕ)) → Pairs IsLeft devices files
        → Recovers (length (map (λ (w : WriterState D). resting w) writers)) (starts plan) history
        (map (λ (w : WriterState D). resting w) writers) (map (λ (b : Known). b.seen) scanners) files

  abbrev pub AreHonest : List D → Type 0
  AreHonest devices = (i : ℕ) (d : D) → slice_get devices i ≡ Some d → disk.is_honest d

  -- if they are honest, these devices keep the memory of a start, from which any number of crashes
  -- and starts may follow
  abbrev pub KeepAStart : List D → Type 0
  KeepAStart devices = AreHonest devices → (start : Start) × Restarts disk (length devices) start [] devices

  -- if the second devices are honest, all that happened to the first ones happened to them too
  abbrev pub ComeThrough : List D → List D → Type 0
  ComeThrough olds news = AreHonest news → (n : ℕ) (start : Start) (moments : List (List Update))
      → Restarts disk n start moments olds → Restarts disk n start moments news
