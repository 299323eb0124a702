-- The file that formatting and migration make.
use Rattle.std.specs.Prelude.{◌≡◌, ◌⊎◌, ℕ, ◌+◌, List, [], ◌∷◌, ◌++◌, Result, IsErrOf, OnOk}
use Rattle.snap_disk.specs.Device.{Device, IsSynced, MayLeave}
use Rattle.snap_disk.specs.declared.refusal.Refusal.{Refusal, TheVariants.AlreadyFormatted}
use Rattle.snap_slot.specs.Layout.{header_front, slots_of, IsFormatted, IsUnformatted, IsFileOf}
use Rattle.snap_slot.specs.declared.layout.TheConstants.{OPEN_GATE}
use Rattle.snap_disk.specs.declared.disk.Disk as Disk

-- all bytes of the new file of segment i of n with number k and value v: its header with an open
-- gate, the slot of k, and zeros in the other two
abbrev pub new_file : (i n k : ℕ) (v : List ℕ) → List ℕ
new_file i n k v = header_front i n ++ (OPEN_GATE ∷ slots_of k v)

-- bytes that a crash could have left before, or an unformatted file, or the whole new file with number k and value v
abbrev pub IsMadeOrLeft : (i n k : ℕ) (v : List ℕ) (old : Device) → List ℕ → Type 0
IsMadeOrLeft i n k v old b = MayLeave old b ⊎ (IsUnformatted b ⊎ IsFileOf i n k v b)

-- IsMadeOrLeft for formatting, which makes number 0 and the empty value
abbrev pub IsFresh : (i n : ℕ) (old : Device) → List ℕ → Type 0
IsFresh i n old b = IsMadeOrLeft i n 0 [] old b

-- the result says how the header's gate was found: `AlreadyFormatted` open, by a sync and a read; Ok closed
pub record TellsGate {D T : Type 0} (disk : Disk.Ghosts D) (result : Result T Refusal) (old new : D)
    : Type 0 where
  pub taken_calls : IsErrOf result AlreadyFormatted → disk.clock new ≡ disk.clock old + 2
  pub taken : disk.is_honest new → IsErrOf result AlreadyFormatted
      → IsFormatted (disk.device old).bytes × IsSynced (disk.device old) (disk.device new)
  pub unformatted : disk.is_honest new → OnOk result (IsUnformatted (disk.device old).bytes)
