-- Why two syncs are enough for a store.
use Rattle.std.specs.Prelude.{ℕ, ◌+◌, Bool, true, List}
use Rattle.snap_slot.specs.Device.{Device, MayLeave, opened}
use Rattle.snap_slot.specs.Layout.{slot_of, next_slot, gate_at, body_at, IsClosed, IsFileOf}
use Rattle.snap_slot.specs.{declared.layout.TheConstants.BLOCK_LEN, Limits.IsNumber, Limits.IsShort, States.IsAtRest}
use Rattle.snap_slot.specs.States.{IsEither}
use Rattle.snap_persist.specs.Device.{IsBodyStored}

-- The slot that the next number takes is closed already, so its body may be torn.
abbrev pub NextGateIsClosed : Type 0
NextGateIsClosed = (i n k : ℕ) (u : List ℕ) (spare_open : Bool) (d : Device)
    → IsAtRest i n k u spare_open d → IsClosed d.bytes (slot_of (k + 1))

-- Closing the spare slot needs no sync of its own. Before the first sync the spare gate and the new
-- body may hold any bytes, and the file holds number k all the same: the spare slot, open or
-- closed, has the previous number, and the gate of the new body is closed.
abbrev pub ClosingSharesTheSync : Type 0
ClosingSharesTheSync = (i n k : ℕ) (u : List ℕ) (d : Device) → IsAtRest i n k u true d → (b : List ℕ)
    → MayLeave (opened (body_at (slot_of (k + 1))) BLOCK_LEN (opened (gate_at (next_slot (slot_of (k + 1)))) 1 d)) b
    → IsFileOf i n k u b

-- The first sync has made both durable. Now only the new gate may hold any byte, and it decides: if it is open the file
-- holds number k + 1, with number k in the spare slot and the next slot closed; else the file holds number k.
abbrev pub OneGateDecides : Type 0
OneGateDecides = (i n k : ℕ) (u v : List ℕ) → IsNumber (k + 1) → IsShort v → (d : Device) → IsBodyStored i n k u v d
    → (b : List ℕ) → MayLeave (opened (gate_at (slot_of (k + 1))) 1 d) b → IsEither i n k u v b
