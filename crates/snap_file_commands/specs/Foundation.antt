-- The effect of `found` on its device, by how it ends.
use Rattle.std.specs.Prelude.{◌≡◌, ◌≢◌, ◌⊎◌, ℕ, List, [], length, Bool, true, false, Result, Ok, Err}
use Rattle.snap_disk.specs.{Device.Device, declared.refusal.Refusal.Refusal}
use Rattle.snap_slot.specs.Layout.{IsFileOf, IsFormatted, IsUnformatted}
use Rattle.snap_slot.specs.declared.slot.Slot.TheVariants.{Closed, Open, Bad}
use Rattle.snap_slot.specs.{declared.layout.TheConstants.FILE_LEN, States.IsAtRest, Findings.AreFindings}
use Rattle.snap_slot.specs.{declared.findings.Findings.Findings, declared.slot.Slot.Slot}
use Rattle.snap_file_commands.specs.Commands.{End, IsNewlyMade}
use Rattle.snap_file_commands.specs.declared.fault.CommandFault.TheVariants.{Refused, Output}
use Rattle.snap_disk.specs.declared.refusal.Refusal.TheVariants as refusal
use Rattle.snap_order.specs.declared.status.Status.TheVariants as status

-- ---- what the file was

-- no value can be read from the slot but that of a fresh file: it is closed, or bad, or open with number 0 and no byte
abbrev pub IsEmptySlot : Slot → Type 0
IsEmptySlot Closed = Unit {0}
IsEmptySlot (Open k n) = (k ≡ 0) × (n ≡ 0)
IsEmptySlot (Bad flaw) = Unit {0}

abbrev pub AreEmpty : Findings → Type 0
AreEmpty f = IsEmptySlot f.slots.0 × IsEmptySlot f.slots.1 × IsEmptySlot f.slots.2

-- it was never formatted, or its format was cut off: its header's gate is closed, and no slot has a value
abbrev pub IsBlank : List ℕ → Type 0
IsBlank b = IsUnformatted b × ((f : Findings) × AreFindings b f × AreEmpty f)

-- its header's gate is closed, and a slot has a value
abbrev pub IsNotBlank : List ℕ → Type 0
IsNotBlank b = IsUnformatted b × ((f : Findings) × AreFindings b f × (AreEmpty f → ⊥))

-- it was that of segment i of n, with number k and value v, and is so, also after a crash
pub record HasKept (i n k : ℕ) (v : List ℕ) (old new : Device) : Type 0 where
  pub was : IsFileOf i n k v old.bytes
  pub spare_open : Bool
  pub rests : IsAtRest i n k v spare_open new

-- it is not that of segment i of n, whole, with any number and value
abbrev pub IsNotWhole : ℕ → ℕ → List ℕ → Type 0
IsNotWhole i n b = (k : ℕ) (v : List ℕ) → IsFileOf i n k v b → ⊥

-- why it was neither made nor kept, if its bytes are the reason
abbrev pub IsNoFounding : ℕ → ℕ → List ℕ → Refusal → Type 0
IsNoFounding i n b refusal.WrongFile = length b ≢ FILE_LEN
IsNoFounding i n b refusal.AlreadyFormatted = IsFormatted b × IsNotWhole i n b
IsNoFounding i n b refusal.Unformatted = IsNotBlank b
IsNoFounding i n b refusal.DeviceFailed = Unit {0}
IsNoFounding i n b refusal.NoMemory = Unit {0}
IsNoFounding i n b why = ⊥

-- ---- what was done

-- a blank file was made, or a whole one was kept
abbrev pub IsDone : (honest : Type 0) (i n : ℕ) (old new : Device) → Type 0
IsDone honest i n old new = (honest → IsBlank old.bytes × IsNewlyMade i n 0 [] old new)
    ⊎ ((k : ℕ) × (v : List ℕ) × (honest → HasKept i n k v old new))

abbrev pub EndsFounding : (honest : Type 0) (i n : ℕ) (old new : Device) → End → Type 0
EndsFounding honest i n old new (Ok s) = (s ≡ status.Done) × IsDone honest i n old new
EndsFounding honest i n old new (Err (Output error)) = IsDone honest i n old new
EndsFounding honest i n old new (Err (Refused why)) = honest → IsNoFounding i n old.bytes why
EndsFounding honest i n old new end = ⊥

-- ---- on the way there

-- the bytes by the result of reading them
abbrev pub SaysBlank : List ℕ → Result Bool Refusal → Type 0
SaysBlank b (Ok true) = IsBlank b
SaysBlank b (Ok false) = IsFormatted b
SaysBlank b (Err refusal.Unformatted) = IsNotBlank b
SaysBlank b (Err refusal.WrongFile) = length b ≢ FILE_LEN
SaysBlank b (Err refusal.DeviceFailed) = Unit {0}
SaysBlank b (Err why) = ⊥

-- the bytes of a formatted file by the result of opening it
abbrev pub EndsKeeping : (honest : Type 0) (i n : ℕ) (old new : Device) → End → Type 0
EndsKeeping honest i n old new (Ok s) = (s ≡ status.Done)
    × ((k : ℕ) × (v : List ℕ) × (honest → HasKept i n k v old new))
EndsKeeping honest i n old new (Err (Output error)) = (k : ℕ) × (v : List ℕ) × (honest → HasKept i n k v old new)
EndsKeeping honest i n old new (Err (Refused refusal.AlreadyFormatted)) =
    honest → IsFormatted old.bytes → IsNotWhole i n old.bytes
EndsKeeping honest i n old new (Err (Refused refusal.DeviceFailed)) = Unit {0}
EndsKeeping honest i n old new (Err (Refused refusal.NoMemory)) = Unit {0}
EndsKeeping honest i n old new end = ⊥

-- why a formatted file is neither kept nor made, by why it can't be opened
abbrev pub refusal_of_formatted : Refusal → Refusal
refusal_of_formatted refusal.NoMemory = refusal.NoMemory
refusal_of_formatted refusal.DeviceFailed = refusal.DeviceFailed
refusal_of_formatted why = refusal.AlreadyFormatted
