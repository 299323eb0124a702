-- The results of a migration.
use Rattle.std.specs.Prelude.{◌≡◌, ℕ, List, Result, Ok, Err}
use Rattle.snap_disk.specs.declared.refusal.Refusal.{Refusal}
use Rattle.snap_slot.specs.Old.{OldHolds}
use Rattle.snap_segment.specs.declared.migration.Which.TheVariants.{Old, New}
use Rattle.snap_segment.specs.{declared.migration.Which.Which, Open.CountsFailed, Refusals.IsMakeRefusal}

-- only the failure count of the device that failed grows, by one; the counts are of the old file
-- before and after, then of the new file before and after
abbrev pub CountsFault : Which → Refusal → (before after new_before new_after : ℕ) → Type 0
CountsFault Old why before after new_before new_after = CountsFailed why before after × (new_after ≡ new_before)
CountsFault New why before after new_before new_after = (after ≡ before) × CountsFailed why new_before new_after

-- the old file was read: the refusal came from making the new one
abbrev pub IsPast : Which → Refusal → Type 0
IsPast Old why = ⊥
IsPast New why = IsMakeRefusal why

abbrev pub IsRead : Result ℕ (Which × Refusal) → Type 0
IsRead (Ok number) = Unit {0}
IsRead (Err e) = IsPast e.0 e.1

-- P is true of the number and value that an old file of bytes b holds
abbrev pub OfHeld : (b : List ℕ) (P : ℕ → List ℕ → Type 0) → Type 0
OfHeld b P = (k : ℕ) (v : List ℕ) → OldHolds b k v → P k v
