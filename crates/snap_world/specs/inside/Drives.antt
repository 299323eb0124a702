-- The device of a segment while its writer is in each phase, and after a crash.
use Rattle.std.specs.Prelude.{◌≡◌, ◌≢◌, ◌⊎◌, ℕ, ◌+◌, Bool, false, List, [], Some, slice_get}
use Rattle.snap_disk.specs.{Device.Device, Device.MayLeave, declared.fill.Fill.Fill, Image.image_device}
use Rattle.snap_world.specs.Machine.{WriterState, Pending, Begun}
use Rattle.snap_world.specs.{Devices.IsRefilled, declared.drive.Drive.Drive, declared.writer.WriterPhase.WriterPhase}
use Rattle.snap_slot.specs.{Layout.IsFileOf, Layout.slot_of, States.IsAtRest, States.IsEither}
use Rattle.snap_persist.specs.Device.{IsAtStage}
use Rattle.snap_persist.specs.Stage.{PersistState, calls_left, first_stage}
use Rattle.snap_history.specs.History.{Update, from_nothing, number_after, value_after}
use Rattle.snap_history.specs.Pairs.{Pairs}
use Rattle.snap_world.specs.declared.writer.WriterPhase.TheVariants as writer

abbrev pub device_of : Drive → Device
device_of d = image_device d.image

-- the device of segment i of n is at rest with number k and value u, and the persist is its next store's
pub record IsReady (i n k : ℕ) (u : List ℕ) (device : Device)
    (persist : PersistState) : Type 0 where
  pub spare_open : Bool
  pub rest : IsAtRest i n k u spare_open device
  pub slot : persist.slot ≡ slot_of (k + 1)
  pub stage : persist.stage ≡ first_stage spare_open

-- a store of value v is under way at number k and value u
pub record IsStoreUnderWay (i n k : ℕ) (u v : List ℕ) (device : Device)
    (persist : PersistState) : Type 0 where
  pub slot : persist.slot ≡ slot_of (k + 1)
  pub going : calls_left persist.stage ≢ []
  pub at_stage : IsAtStage i n k u v persist.stage device

-- the device of segment i, whose history has number k and value u, while its writer is in this phase with this update
abbrev pub IsDriveAt : (i n k : ℕ) (u : List ℕ) → WriterPhase → Pending → Device → PersistState → Type 0
IsDriveAt i n k u writer.Idle pending device persist = IsReady i n k u device persist
IsDriveAt i n k u writer.Scanning pending device persist = IsReady i n k u device persist
IsDriveAt i n k u writer.Storing pending device persist =
    (v : List ℕ) → pending ≡ Begun v → IsStoreUnderWay i n k u v device persist
IsDriveAt i n k u writer.Stored pending device persist =
    (v : List ℕ) → pending ≡ Begun v → IsReady i n (k + 1) v device persist
IsDriveAt i n k u writer.Shown pending device persist = IsReady i n k u device persist
IsDriveAt i n k u writer.Fenced pending device persist = (v : List ℕ) → pending ≡ Begun v
    → (b : List ℕ) → MayLeave device b → IsEither i n k u v b

abbrev pub DriveStands : ℕ → List Update → ℕ → WriterPhase → Pending → Drive → Type 0
DriveStands n h i phase pending d =
    IsDriveAt i n (number_after from_nothing h i) (value_after from_nothing h i) phase pending (device_of d) d.persist

-- `DriveStands` for each segment
abbrev pub DrivesStand : ℕ → List Update → List WriterState → List WriterPhase → List Drive → Type 0
DrivesStand n h writers phases drives = (i : ℕ) (d : Drive) (s : WriterState) (phase : WriterPhase)
    → slice_get drives i ≡ Some d → slice_get writers i ≡ Some s → slice_get phases i ≡ Some phase
    → DriveStands n h i phase s.pending d

-- after a crash: whatever one more leaves is the file of number k and value u, or of the next
-- number with the begun value
abbrev pub HoldsEither : (i n k : ℕ) (u : List ℕ) → Pending → List ℕ → Type 0
HoldsEither i n k u pending b = IsFileOf i n k u b ⊎ ((v : List ℕ) × (pending ≡ Begun v) × IsFileOf i n (k + 1) v b)

abbrev pub DrivesDown : ℕ → List Update → List WriterState → List Drive → Type 0
DrivesDown n h writers drives = (i : ℕ) (d : Drive) (s : WriterState) → slice_get drives i ≡ Some d
    → slice_get writers i ≡ Some s → (b : List ℕ) → MayLeave (device_of d) b
    → HoldsEither i n (number_after from_nothing h i) (value_after from_nothing h i) s.pending b

-- a new device, with number 0, the empty value and a closed spare gate
pub record IsFormatted (i n : ℕ) (d : Drive) : Type 0 where
  pub rest : IsAtRest i n 0 [] false (device_of d)
  pub slot : d.persist.slot ≡ 1
  pub stage : d.persist.stage ≡ first_stage false

-- the devices of a new world
abbrev pub AllReady : ℕ → List Drive → Type 0
AllReady n drives = (i : ℕ) (d : Drive) → slice_get drives i ≡ Some d → IsFormatted i n d

-- a device crashed: its open places have the fill
pub record IsCrashed (fill : Fill) (d e : Drive) : Type 0 where
  pub refilled : IsRefilled fill (device_of d) (device_of e)
  pub persist : e.persist ≡ d.persist

-- each device crashed with its fill
abbrev pub AreCrashed : List Fill → List Drive → List Drive → Type 0
AreCrashed fills old new = Pairs (λ i d e. (fill : Fill) → slice_get fills i ≡ Some fill → IsCrashed fill d e) old new
