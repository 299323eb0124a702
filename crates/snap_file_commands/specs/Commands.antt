-- The effect of each command on its device, the input of a `put`, and the output of a `put`, a `get` and a slot's
-- value, by how the command ends.
use Rattle.std.specs.Prelude.{◌≡◌, ◌≢◌, ◌⊎◌, ℕ, ◌+◌, ◌<◌, List, [], ◌++◌, length, Option, Result, Ok, Err, IfSome}
use Rattle.std.specs.Prelude.{is_some, codes, if◌then◌else◌, false}
use Rattle.std.specs.{Fmt.decimal, Io.KnownBytes.Appends, Io.KnownBytes.Keeps}
use Rattle.snap_disk.specs.Device.{Device, IsSettled, MayLeave, part}
use Rattle.snap_disk.specs.declared.refusal.Refusal.{Refusal}
use Rattle.snap_slot.specs.declared.layout.TheConstants.{BLOCK_LEN, FILE_LEN, OPEN_GATE, SLOT_COUNT}
use Rattle.snap_slot.specs.Layout.{body_at, gate_block, Head, Holds, IsUnformatted, IsFormatted, IsFileOf, IsOpenSlot}
use Rattle.snap_slot.specs.{Slot.IsFlawed, declared.slot.SlotFault.SlotFault, States.IsAtRest, States.IsEither}
use Rattle.snap_slot.specs.{Findings.AreFindings, Findings.IsNoOpening, declared.findings.Findings.Findings}
use Rattle.snap_history.specs.declared.limits.TheConstants.{MAX_VALUE_LEN, LAST_NUMBER}
use Rattle.snap_segment.specs.Creation.{IsFresh, new_file}
use Rattle.snap_order.specs.Streams.{AppendsBeginning, Had}
use Rattle.snap_file_commands.specs.declared.fault.CommandFault.{CommandFault}
use Rattle.snap_file_commands.specs.declared.fault.CommandFault.TheVariants.{Refused, Input, Output, Unsaid, NoValue}
use Rattle.snap_order.specs.declared.order.FileOrder.TheVariants.{Format, Put, Get, Check, Slot}
use Rattle.snap_order.specs.declared.{order.FileOrder.FileOrder, status.Status.Status}
use Rattle.snap_disk.specs.declared.refusal.Refusal.TheVariants as refusal
use Rattle.snap_order.specs.declared.status.Status.TheVariants as status

-- how a command ends: with a status, or early
abbrev pub End : Type 0
End = Result Status CommandFault

abbrev pub status_of : CommandFault → Status
status_of (Refused why) = status.Refused
status_of (NoValue file slot flaw) = status.Refused
status_of failure = status.Failed

abbrev pub status_at : End → Status
status_at (Ok s) = s
status_at (Err failure) = status_of failure

-- the device's failure count grows by one exactly if the end is that it failed
abbrev pub CountsEnd : End → ℕ → ℕ → Type 0
CountsEnd (Err (Refused refusal.DeviceFailed)) old new = new ≡ old + 1
CountsEnd end old new = new ≡ old

-- ---- making a file: format, and one of a dump's

-- the file was unformatted, and is that of segment i of n with number k and value v, in each of its bytes,
-- also after a crash
abbrev pub IsNewlyMade : (i n k : ℕ) (v : List ℕ) (old new : Device) → Type 0
IsNewlyMade i n k v old new = IsUnformatted old.bytes × IsAtRest i n k v false new × (new.bytes ≡ new_file i n k v)

-- why a file was not made, if its bytes are the reason
abbrev pub IsNoMaking : List ℕ → Refusal → Type 0
IsNoMaking b refusal.WrongFile = length b ≢ FILE_LEN
IsNoMaking b refusal.AlreadyFormatted = IsFormatted b
IsNoMaking b refusal.DeviceFailed = Unit {0}
IsNoMaking b refusal.NoMemory = Unit {0}
IsNoMaking b why = ⊥

abbrev pub EndsMaking : (honest : Type 0) (i n k : ℕ) (v : List ℕ) (old new : Device) → End → Type 0
EndsMaking honest i n k v old new (Ok s) = (s ≡ status.Done) × (honest → IsNewlyMade i n k v old new)
EndsMaking honest i n k v old new (Err (Output error)) = honest → IsNewlyMade i n k v old new
EndsMaking honest i n k v old new (Err (Refused why)) = honest → IsNoMaking old.bytes why
EndsMaking honest i n k v old new end = ⊥

-- ---- put

-- the printed line
abbrev pub stored_line : ℕ → List ℕ
stored_line k = codes "stored " ++ (decimal k ++ codes "\n")

-- the file held number c, and holds the next number and value v, also after a crash
pub record IsStored (i n c : ℕ) (v : List ℕ) (old new : Device) : Type 0 where
  pub value : List ℕ
  pub head : Head old.bytes i n
  pub held : Holds old.bytes c value
  pub settled : IsSettled new
  pub lasts : (b : List ℕ) → MayLeave new b → IsFileOf i n (c + 1) v b

-- why value v was not stored: why the file can't be opened, or that its number is the last one
abbrev pub IsNoStore : (i n : ℕ) (v b : List ℕ) → Refusal → Type 0
IsNoStore i n v b refusal.Exhausted = Head b i n × ((u : List ℕ) × Holds b LAST_NUMBER u)
IsNoStore i n v b refusal.DeviceFailed = Unit {0}
IsNoStore i n v b why = IsNoOpening i n b why

abbrev pub EndsStore : (honest : Type 0) (i n : ℕ) (v : List ℕ) (old new : Device)
    (out out' : Option (List ℕ)) → End → Type 0
EndsStore honest i n v old new out out' (Ok s) = (c : ℕ) × (s ≡ status.Done) × (honest → IsStored i n c v old new)
    × Appends out out' (stored_line (c + 1))
EndsStore honest i n v old new out out' (Err (Unsaid number error)) =
    (c : ℕ) × (number ≡ c + 1) × (honest → IsStored i n c v old new) × AppendsBeginning out out' (stored_line (c + 1))
EndsStore honest i n v old new out out' (Err (Refused refusal.TooLong)) = ⊥
EndsStore honest i n v old new out out' (Err (Refused why)) = (honest → IsNoStore i n v old.bytes why) × Keeps out out'
EndsStore honest i n v old new out out' end = ⊥

-- a crash during a store of v may leave what the file held, or v with the next number
abbrev pub LeavesEither : (i n : ℕ) (v : List ℕ) (old : Device) → List ℕ → Type 0
LeavesEither i n v old b = (c : ℕ) × (u : List ℕ) × Head old.bytes i n × Holds old.bytes c u × IsEither i n c u v b

-- A value that is too long, or can't be read, leaves the device untouched.
abbrev pub EndsPut : (honest : Type 0) (i n : ℕ) (known : Option (List ℕ)) (old new : Device)
    (out out' : Option (List ℕ)) → End → Type 0
EndsPut honest i n known old new out out' (Err (Input error)) = (new ≡ old) × Keeps out out'
EndsPut honest i n known old new out out' (Err (Refused refusal.TooLong)) =
    IfSome known (λ xs. MAX_VALUE_LEN < length xs) × (new ≡ old) × Keeps out out'
EndsPut honest i n known old new out out' end = (v : List ℕ) × Had known v × EndsStore honest i n v old new out out' end

-- a crash during a put may leave what one before could, or what one during the store may
abbrev pub PutLeaves : (i n : ℕ) (known : Option (List ℕ)) (old : Device) → List ℕ → Type 0
PutLeaves i n known old b = MayLeave old b ⊎ ((v : List ℕ) × Had known v × LeavesEither i n v old b)

-- ---- get

-- the file is that of segment i of n, and holds value v
abbrev pub HoldsValue : (i n : ℕ) (v : List ℕ) → Device → Type 0
HoldsValue i n v device = Head device.bytes i n × ((k : ℕ) × Holds device.bytes k v)

abbrev pub EndsGet : (honest : Type 0) (i n : ℕ) (old : Device) (out out' : Option (List ℕ)) → End → Type 0
EndsGet honest i n old out out' (Ok s) =
    (v : List ℕ) × (s ≡ status.Done) × (honest → HoldsValue i n v old) × Appends out out' v
EndsGet honest i n old out out' (Err (Output error)) =
    (v : List ℕ) × (honest → HoldsValue i n v old) × AppendsBeginning out out' v
EndsGet honest i n old out out' (Err (Refused why)) = (honest → IsNoOpening i n old.bytes why) × Keeps out out'
EndsGet honest i n old out out' end = ⊥

-- ---- check

-- why nothing was found
abbrev pub IsNoCheck : List ℕ → Refusal → Type 0
IsNoCheck b refusal.WrongFile = length b ≢ FILE_LEN
IsNoCheck b refusal.DeviceFailed = Unit {0}
IsNoCheck b refusal.NoMemory = Unit {0}
IsNoCheck b why = ⊥

-- the status says whether the file has an answer
abbrev pub EndsCheck : (honest : Type 0) (old : Device) → End → Type 0
EndsCheck honest old (Ok s) = (findings : Findings) × (honest → AreFindings old.bytes findings)
    × (s ≡ (if is_some findings.answer then status.Done else status.Refused))
EndsCheck honest old (Err (Output error)) = Unit {0}
EndsCheck honest old (Err (Refused why)) = IsNoCheck old.bytes why
EndsCheck honest old end = ⊥

-- ---- one slot

-- the body block of slot s of a whole file
abbrev pub body_of : (s : ℕ) → List ℕ → List ℕ
body_of s b = part (body_at s) BLOCK_LEN b

-- this body block has value v: with an open gate it is slot s with some number
abbrev pub HasBody : (s : ℕ) (v body : List ℕ) → Type 0
HasBody s v body = (k : ℕ) × IsOpenSlot SLOT_COUNT s (gate_block OPEN_GATE) body k v

-- it has none: with an open gate slot s is bad for this reason
abbrev pub HasBadBody : (s : ℕ) (body : List ℕ) → SlotFault → Type 0
HasBadBody s body flaw = IsFlawed SLOT_COUNT s (gate_block OPEN_GATE) body flaw

-- the printed value is that in the slot's body, whatever its gate is
abbrev pub EndsSlot : (s : ℕ) (honest : Type 0) (old : Device) (out out' : Option (List ℕ)) → End → Type 0
EndsSlot s honest old out out' (Ok done) = (v : List ℕ) × (done ≡ status.Done)
    × (honest → HasBody s v (body_of s old.bytes)) × Appends out out' v
EndsSlot s honest old out out' (Err (Output error)) =
    (v : List ℕ) × (honest → HasBody s v (body_of s old.bytes)) × AppendsBeginning out out' v
EndsSlot s honest old out out' (Err (NoValue file slot flaw)) =
    (honest → HasBadBody s (body_of s old.bytes) flaw) × Keeps out out'
EndsSlot s honest old out out' (Err (Refused why)) = IsNoCheck old.bytes why × Keeps out out'
EndsSlot s honest old out out' end = ⊥

-- ---- any command

-- the command ended so; `known` are the reader's bytes, `out` and `out'` the writer's before and after
abbrev pub EndsOrder : FileOrder → (honest : Type 0) (known : Option (List ℕ)) (old new : Device)
    (out out' : Option (List ℕ)) → End → Type 0
EndsOrder (Format file i n) honest known old new out out' end = EndsMaking honest i n 0 [] old new end
EndsOrder (Put file i n) honest known old new out out' end = EndsPut honest i n known old new out out' end
EndsOrder (Get file i n) honest known old new out out' end = EndsGet honest i n old out out' end
EndsOrder (Check file is_json) honest known old new out out' end = EndsCheck honest old end
EndsOrder (Slot file slot) honest known old new out out' end = EndsSlot slot honest old out out' end

-- the bytes that a crash during the command may leave
abbrev pub OrderLeaves : FileOrder → (known : Option (List ℕ)) (old : Device) → List ℕ → Type 0
OrderLeaves (Format file i n) known old b = IsFresh i n old b
OrderLeaves (Put file i n) known old b = PutLeaves i n known old b
OrderLeaves order known old b = MayLeave old b
