-- The finding in the bytes b of an old file.
use Rattle.std.specs.Prelude.{◌≡◌, ◌≢◌, ◌⊎◌, ℕ, ◌≤◌, List, length}
use Rattle.snap_disk.specs.declared.refusal.Refusal.TheVariants.{DeviceFailed, Unformatted, Damaged, WrongFile}
use Rattle.snap_disk.specs.{Device.part, declared.refusal.Refusal.Refusal}
use Rattle.snap_slot.specs.Layout.{IsUnformatted, gate_at, body_at}
use Rattle.snap_slot.specs.Old.{old_slot_of, old_mark, OldHolds, OldHead}
use Rattle.snap_slot.specs.declared.old_layout.TheConstants.{OLD_FILE_LEN, OLD_SLOT_COUNT}
use Rattle.snap_slot.specs.{Limits.IsNumber, Findings.value_in, Header.IsMarkedHeader, Slot.IsReadAs}
use Rattle.snap_slot.specs.{limits.TheConstants.MAX_VALUE_LEN, declared.header.Header.Header, declared.slot.Slot.Slot}
use Rattle.snap_slot.specs.{declared.layout.TheConstants.BLOCK_LEN, declared.old_recovery.OldFound.OldFound}

-- the reading of the header
abbrev pub IsOldHeaderOf : List ℕ → Header → Type 0
IsOldHeaderOf b header = IsMarkedHeader old_mark b header

-- the reading of slot s
abbrev pub IsOldSlotOf : List ℕ → ℕ → Slot → Type 0
IsOldSlotOf b s slot = IsReadAs OLD_SLOT_COUNT s (part (gate_at s) BLOCK_LEN b) (part (body_at s) BLOCK_LEN b) slot

-- the newest number, and the length of its value
pub record IsOldHeld (b : List ℕ) (found : OldFound) : Type 0 where
  pub holds : OldHolds b found.number (value_in b (old_slot_of found.number) found.length)
  pub small : IsNumber found.number
  pub fits : found.length ≤ MAX_VALUE_LEN

-- the finding in the file of segment i of n
pub record IsOldFound (i n : ℕ) (b : List ℕ) (found : OldFound) : Type 0 where
  pub head : OldHead b i n
  pub held : IsOldHeld b found

-- why an old file of bytes b can't be read as that of segment i of n
abbrev pub IsNoOldOpening : ℕ → ℕ → List ℕ → Refusal → Type 0
IsNoOldOpening i n b DeviceFailed = length b ≡ OLD_FILE_LEN
IsNoOldOpening i n b Unformatted = (length b ≡ OLD_FILE_LEN) × IsUnformatted b
IsNoOldOpening i n b WrongFile = (length b ≢ OLD_FILE_LEN) ⊎ ((IsUnformatted b → ⊥) × (OldHead b i n → ⊥))
IsNoOldOpening i n b Damaged = (length b ≡ OLD_FILE_LEN) × OldHead b i n × ((k : ℕ) (v : List ℕ) → OldHolds b k v → ⊥)
IsNoOldOpening i n b why = ⊥
