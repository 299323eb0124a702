-- The files after a migration, in terms of the command.
use Rattle.std.proofs.Common.{◌≡◌, ℕ, List, inl, inr, refl, false}
use Rattle.snap_disk.specs.{declared.refusal.Refusal.TheVariants.WrongFile, Device.Device, Device.MayLeave, Laws.weaker}
use Rattle.snap_disk.specs.{Time.LeavesOnly, Laws.started, declared.refusal.Refusal.Refusal}
use Rattle.snap_slot.specs.{Layout.IsUnformatted, States.IsAtRest, Old.OldHead, Old.OldHolds}
use Rattle.snap_segment.specs.{Creation.IsMadeOrLeft, Creation.new_file, Migration.IsPast, Refusals.IsMigrationRefusal}
use Rattle.snap_segment.specs.declared.migration.Which.{TheVariants.Old, TheVariants.New, Which}
use Rattle.snap_file_commands.specs.Migration.{IsMigrated, IsOldFile, MigrationLeaves}
use Rattle.snap_disk.specs.declared.disk.Disk as Disk

widened : (i n k : ℕ) (v : List ℕ) (old new : Device) → OldHead old.bytes i n → OldHolds old.bytes k v → (b : List ℕ)
    → IsMadeOrLeft i n k v new b → MigrationLeaves i n old new b
widened i n k v old new head holds b (inl left) = inl left
widened i n k v old new head holds b (inr made) = inr (k, v, head, holds, made)

-- if the old file was read
pub made_leaves : {N : Type 0} (disk : Disk.Ghosts N) (a b : N) (i n : ℕ) (old new : Device) → IsOldFile i n old.bytes
    → ((k : ℕ) (v : List ℕ) → OldHolds old.bytes k v → LeavesOnly disk a b (IsMadeOrLeft i n k v new))
    → LeavesOnly disk a b (MigrationLeaves i n old new)
made_leaves disk a b i n old new (head, (k, v, holds)) makes =
    weaker disk a b (IsMadeOrLeft i n k v new) (MigrationLeaves i n old new) (makes k v holds)
    (widened i n k v old new head holds)

-- if no call was made
pub untouched_leaves : {N : Type 0} (disk : Disk.Ghosts N) (a b : N) (i n : ℕ) (old new : Device) → b ≡ a
    → ((x : List ℕ) → disk.might_have_left a (disk.clock a) x → MayLeave new x)
    → LeavesOnly disk a b (MigrationLeaves i n old new)
untouched_leaves disk a b i n old new same now =
    rw same (started disk a (MigrationLeaves i n old new) (λ x left. inl (now x left)))

-- each refusal is for the old file, or for the new one's length, or after the old file's reading
pub by_refusal : (Goal : Type 0) (which : Which) (why : Refusal) → IsMigrationRefusal which why → (which ≡ Old → Goal)
    → (which ≡ New → why ≡ WrongFile → Goal) → (IsPast which why → Goal) → Goal
by_refusal Goal Old why is old wrong past = old refl
by_refusal Goal New WrongFile is old wrong past = wrong refl refl
by_refusal Goal New why is old wrong past = past is

-- both files after a migration that returned its number
pub migrated : (i n number : ℕ) (old new new' : Device) → IsOldFile i n old.bytes → IsUnformatted new.bytes
    → ((k : ℕ) (v : List ℕ) → OldHolds old.bytes k v → (number ≡ k) × IsAtRest i n k v false new')
    → ((k : ℕ) (v : List ℕ) → OldHolds old.bytes k v → new'.bytes ≡ new_file i n k v)
    → IsMigrated i n number old new new'
migrated i n number old new new' (head, (k, v, holds)) unformatted rests bytes =
    let end = rests k v holds in
    rw end.0 (head, (v, holds, (unformatted, end.1, bytes k v holds)))
