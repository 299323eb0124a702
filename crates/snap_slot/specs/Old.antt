-- The contents of an old segment file with the bytes b. It differs from a new one in its mark and in having two slots.
use Rattle.std.specs.Prelude.{◌⊎◌, ℕ, ◌-◌, ◌%◌, List, codes}
use Rattle.snap_disk.specs.Device.{part}
use Rattle.snap_slot.specs.Layout.{IsClosed, IsHeadOf, IsOpenSlot, gate_at, body_at}
use Rattle.snap_slot.specs.declared.{layout.TheConstants.BLOCK_LEN, old_layout.TheConstants.OLD_SLOT_COUNT}

-- the slot that holds number k, and the other slot
abbrev pub old_slot_of : ℕ → ℕ
old_slot_of k = k % OLD_SLOT_COUNT

abbrev pub old_other_slot : ℕ → ℕ
old_other_slot s = 1 - s

-- slot s is open with number k and value v
abbrev pub OldOpen : List ℕ → ℕ → ℕ → List ℕ → Type 0
OldOpen b s k v = IsOpenSlot OLD_SLOT_COUNT s (part (gate_at s) BLOCK_LEN b) (part (body_at s) BLOCK_LEN b) k v

-- the file holds number k and value v: one slot has them, the other is closed or has the previous number
pub record OldHolds (b : List ℕ) (k : ℕ) (v : List ℕ) : Type 0 where
  pub s : ℕ
  pub is_open : OldOpen b s k v
  pub other : IsClosed b (old_other_slot s) ⊎ ((u : List ℕ) × OldOpen b (old_other_slot s) (k - 1) u)

-- the first eight bytes of every old file
abbrev pub old_mark : List ℕ
old_mark = codes "SNAPSEG1"

-- the file has the old header of segment i of n, and its gate is open
abbrev pub OldHead : List ℕ → ℕ → ℕ → Type 0
OldHead b i n = IsHeadOf old_mark b i n
