-- How each event changes the devices.
use Rattle.std.specs.Prelude.{◌≡◌, ℕ, Bool, ◌+◌, List, ◌∷◌, Some, slice_get, slice_set}
use Rattle.snap_disk.specs.Device.{Device, in_range, IsTouched, IsSynced, IsUnsynced}
use Rattle.snap_disk.specs.{Fill.IsFilled, declared.fill.Fill.Fill}
use Rattle.snap_slot.specs.Layout.{slot_of, body_block, Head, Holds, IsSpare}
use Rattle.snap_persist.specs.Device.{IsJustWritten, write_at, write_bytes, write_len}
use Rattle.snap_persist.specs.{declared.persist.NextCall.NextCall, Stage.store_calls}
use Rattle.snap_history.specs.Pairs.{Pairs}
use Rattle.snap_history.specs.History.{from_nothing, number_after, value_after}
use Rattle.snap_world.specs.Machine.{State, WriterState, Begun}
use Rattle.snap_world.specs.declared.event.Event.TheVariants.{Call, Fail, Crash, RestartCall, RestartFail, Serve}
use Rattle.snap_world.specs.declared.event.Reply.TheVariants.{Called, DeviceFailed, Crashed, Memory, NotNow}
use Rattle.snap_world.specs.{Calls.store_call, NodePhases.WorldPhases, declared.node.NodePhase.TheVariants.Restarting}
use Rattle.snap_world.specs.{declared.event.Event.Event, declared.node.OpeningCall.OpeningCall}
use Rattle.snap_world.specs.declared.event.Reply.{Reply}
use Rattle.snap_persist.specs.declared.persist.NextCall.TheVariants as next
use Rattle.snap_world.specs.declared.node.OpeningCall.TheVariants as opening

-- this call of a store of this body block into this slot succeeded
abbrev pub IsMade : ℕ → List ℕ → NextCall → Device → Device → Type 0
IsMade slot body (next.Write w) old new = IsJustWritten (write_at slot w) (write_bytes body w) old new
IsMade slot body next.Sync old new = IsSynced old new
IsMade slot body next.Done old new = ⊥

-- a write of n bytes from `at` on failed, and its range got the fill
pub record IsWriteFailed (at n : ℕ) (fill : Fill) (old new : Device) : Type 0 where
  pub touched : IsTouched at n old new
  pub filled : IsFilled fill (in_range at n) old.bytes new.bytes

-- a sync failed, or a crash came, and the open places got the fill
pub record IsRefilled (fill : Fill) (old new : Device) : Type 0 where
  pub left : IsUnsynced old new
  pub filled : IsFilled fill old.is_open old.bytes new.bytes

-- this call of a store into this slot failed
abbrev pub IsMissed : ℕ → Fill → NextCall → Device → Device → Type 0
IsMissed slot fill (next.Write w) old new = IsWriteFailed (write_at slot w) (write_len w) fill old new
IsMissed slot fill next.Sync old new = IsRefilled fill old new
IsMissed slot fill next.Done old new = ⊥

-- device i alone changes, in this way
pub record Changes (i : ℕ) (R : Device → Device → Type 0) (old new : List Device) : Type 0 where
  pub before : Device
  pub after : Device
  pub there : slice_get old i ≡ Some before
  pub change : R before after
  pub others : new ≡ slice_set old i after

-- each device gets its fill at its open places
abbrev pub AreRefilled : List Fill → List Device → List Device → Type 0
AreRefilled fills old new = Pairs (λ i before after. (fill : Fill) → slice_get fills i ≡ Some fill
    → IsRefilled fill before after) old new

-- this call of a restart at segment i succeeded, or failed
abbrev pub RestartMakes : ℕ → OpeningCall → List Device → List Device → Type 0
RestartMakes i opening.Sync old new = Changes i IsSynced old new
RestartMakes i opening.Read old new = new ≡ old

abbrev pub RestartMisses : ℕ → Fill → OpeningCall → List Device → List Device → Type 0
RestartMisses i fill opening.Sync old new = Changes i (IsRefilled fill) old new
RestartMisses i fill opening.Read old new = new ≡ old

-- the device of segment i holds the number and value that the segment has after the history
pub record IsServed (i n : ℕ) (x : State) (device : Device) : Type 0 where
  pub head : Head device.bytes i n
  pub holds : Holds device.bytes (number_after from_nothing x.history i) (value_after from_nothing x.history i)

abbrev pub AreServed : ℕ → State → List Device → Type 0
AreServed n x devices = (i : ℕ) (device : Device) → slice_get devices i ≡ Some device → IsServed i n x device

-- after a restart the calls of a segment's next store fit its spare gate
abbrev pub GatesTold : Event → Reply → WorldPhases → List Device → Type 0
GatesTold Serve (Memory m) q devices = (i : ℕ) (device : Device) (calls : List NextCall)
    → slice_get devices i ≡ Some device → slice_get q.calls i ≡ Some calls
    → (spare_open : Bool) × (calls ≡ store_calls spare_open)
    × ((k : ℕ) (v : List ℕ) → Holds device.bytes k v → IsSpare spare_open device.bytes k)
GatesTold event reply q devices = Unit {0}

-- the number of an update of segment w that was begun, and the slot that it takes
abbrev pub next_number : State → ℕ → ℕ
next_number x w = number_after from_nothing x.history w + 1

abbrev pub next_slot : State → ℕ → ℕ
next_slot x w = slot_of (next_number x w)

-- in state x with phases p, the event with this reply, which leads to state y, leaves these devices
abbrev pub DevicesMove : ℕ → State → WorldPhases → List Device → Event → Reply → State → List Device → Type 0
DevicesMove n x p old event NotNow y new = new ≡ old
-- a call of a store of the next number and the begun value
DevicesMove n x p old (Call w) (Called kind) y new =
    (s : WriterState) × (v : List ℕ) × (slice_get x.writers w ≡ Some s) × (s.pending ≡ Begun v)
    × Changes w (IsMade (next_slot x w) (body_block (next_number x w) v) (store_call kind)) old new
DevicesMove n x p old (Fail w fill) DeviceFailed y new =
    (call : NextCall) × (rest : List NextCall) × (slice_get p.calls w ≡ Some (call ∷ rest))
    × Changes w (IsMissed (next_slot x w) fill call) old new
DevicesMove n x p old (Crash fills) Crashed y new = AreRefilled fills.items old new
DevicesMove n x p old RestartCall (Called kind) y new =
    (i : ℕ) × (call : OpeningCall) × (p.node ≡ Restarting i call) × RestartMakes i call old new
DevicesMove n x p old (RestartFail fill) DeviceFailed y new =
    (i : ℕ) × (call : OpeningCall) × (p.node ≡ Restarting i call) × RestartMisses i fill call old new
-- a restart answers with the values on the devices
DevicesMove n x p old Serve (Memory m) y new = (new ≡ old) × AreServed n y new
-- no other event changes a device
DevicesMove n x p old event reply y new = new ≡ old
