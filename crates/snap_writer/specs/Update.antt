-- The effects of an update under the rule Go: it scans, stores and shows.
use Rattle.std.specs.Prelude.{◌≡◌, ℕ, ◌+◌, List, [], ◌∷◌, ◌++◌, length, Some, true, Result, OnOk, OnErr, IfOk, IfErr}
use Rattle.snap_register.specs.declared.plan.UpdatePhase.TheVariants.{Shown, Storing}
use Rattle.snap_history.specs.History.{Update, updates_of}
use Rattle.snap_register.specs.Seat.{Known, Grows, own_of}
use Rattle.snap_disk.specs.Device.{IsSettled, CountsCalls, MayLeave}
use Rattle.snap_disk.specs.{declared.refusal.Refusal.Refusal, declared.refusal.Refusal.TheVariants.DeviceFailed}
use Rattle.snap_disk.specs.Time.{LeavesOnly}
use Rattle.snap_segment.specs.Segment.{SegmentState, CountsRefusal}
use Rattle.snap_segment.specs.{Layout.IsFileOf, States.IsEither, Stage.store_calls}
use Rattle.snap_writer.specs.Writer.{WriterState}
use Rattle.snap_disk.specs.declared.disk.Disk as Disk

-- the seat is the same: of the same table, with the same segment to write
pub record IsSameSeat (a b : Known) : Type 0 where
  pub table : b.table ≡ a.table
  pub plan : b.plan ≡ a.plan
  pub low : b.low ≡ a.low
  pub high : b.high ≡ a.high

-- the last update that the seat has seen is that of its own segment to this value, and the only new one of that segment
pub record EndsWith (a b : Known) (value : List ℕ) : Type 0 where
  pub between : List Update
  pub seen : b.seen ≡ (a.seen ++ between) ++ record { segment = own_of a; value = value } ∷ []
  pub others : updates_of (own_of a) between ≡ 0

-- the file has the next number and the value, and the update was shown
pub record Advances {D : Type 0} (old new : WriterState D) (value : List ℕ) : Type 0 where
  pub stored : new.segment ≡ record old.segment {
    device = new.segment.device;
    number = old.segment.number + 1;
    value = value;
    spare_open = true;
  }
  pub shown : EndsWith old.seat new.seat value
  pub phase : new.seat.phase ≡ Shown

-- the store failed: the writer is fenced, the update isn't shown, and its seat says that a store was begun
pub record Fails {D : Type 0} (old new : WriterState D) (value : List ℕ) : Type 0 where
  pub fenced : new.segment
      ≡ record old.segment { device = new.segment.device; begun = Some value }
  pub unshown : Grows (record old.seat { phase = Storing }) new.seat

-- a store of v under the next number, as a segment that isn't fenced makes it
pub record HasStored {D : Type 0} (disk : Disk.Ghosts D) (old new : SegmentState D) (v : List ℕ)
    (told : Result ℕ Refusal) : Type 0 where
  pub count : CountsRefusal told (disk.failure_count old.device) (disk.failure_count new.device)
  pub calls : CountsCalls told (length (store_calls old.spare_open)) (disk.clock old.device) (disk.clock new.device)
  pub honest_then : disk.is_honest new.device → disk.is_honest old.device
  pub ok : IfOk told (λ k. (k ≡ old.number + 1) × (new ≡ record old {
    device = new.device;
    number = k;
    value = v;
    spare_open = true;
  }))
  pub failed : IfErr told (λ why. (why ≡ DeviceFailed) × (new ≡ record old { device = new.device; begun = Some v }))
  -- a crash at any time during it leaves the old value or the new one
  pub any_time : disk.is_honest new.device → LeavesOnly disk old.device new.device
      (IsEither old.index old.count old.number old.value v)
  pub last : disk.is_honest new.device → OnOk told (IsSettled (disk.device new.device) × ((b : List ℕ)
      → MayLeave (disk.device new.device) b → IsFileOf old.index old.count (old.number + 1) v b))
  pub either : disk.is_honest new.device → OnErr told ((b : List ℕ)
      → MayLeave (disk.device new.device) b → IsEither old.index old.count old.number old.value v b)
