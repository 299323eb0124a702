-- The effect of a migration on its devices, by how it ends.
use Rattle.std.specs.Prelude.{◌≡◌, ◌≢◌, ◌⊎◌, ℕ, List, length, Result, Ok, Err}
use Rattle.snap_disk.specs.{Device.Device, Device.MayLeave, declared.refusal.Refusal.Refusal}
use Rattle.snap_slot.specs.declared.layout.TheConstants.{FILE_LEN}
use Rattle.snap_slot.specs.Layout.{IsFileOf, IsFormatted, IsUnformatted}
use Rattle.snap_segment.specs.{Old.OldHead, Old.OldHolds, OldFound.IsNoOldOpening, Migration.CountsFault}
use Rattle.snap_segment.specs.{declared.migration.Which.TheVariants.Old, declared.migration.Which.TheVariants.New}
use Rattle.snap_order.specs.declared.status.Status.{Status}
use Rattle.snap_file_commands.specs.Commands.{IsNewlyMade, status_of}
use Rattle.snap_file_commands.specs.declared.fault.CommandFault.TheVariants.{Output, Refused}
use Rattle.snap_file_commands.specs.declared.migration.MigrationFault.{MigrationFault}
use Rattle.snap_file_commands.specs.declared.migration.MigrationFault.TheVariants.{OfFile, Other}
use Rattle.snap_disk.specs.declared.refusal.Refusal.TheVariants as refusal
use Rattle.snap_order.specs.declared.status.Status.TheVariants as status

-- how a migration ends: with a status, or early
abbrev pub MigrationEnd : Type 0
MigrationEnd = Result Status MigrationFault

abbrev pub migration_status_of : MigrationFault → Status
migration_status_of (OfFile which why) = status.Refused
migration_status_of (Other failure) = status_of failure

-- a failure count grows by one exactly if the end is that this device failed
abbrev pub CountsMigration : MigrationEnd → (before after new_before new_after : ℕ) → Type 0
CountsMigration (Err (OfFile which why)) before after new_before new_after =
    CountsFault which why before after new_before new_after
CountsMigration end before after new_before new_after = (after ≡ before) × (new_after ≡ new_before)

-- `same`: the old file's bytes are the same
abbrev pub MigrationReads : MigrationEnd → (same : Type 0) → Type 0
MigrationReads (Err (OfFile Old refusal.DeviceFailed)) same = Unit {0}
MigrationReads end same = same

-- `same_old`, `same_new`: the device is the same, with no call made. `kept`: whatever a crash at any
-- time during the call leaves of the new file, a crash before it could leave.
abbrev pub MigrationKeeps : MigrationEnd → (same_old same_new kept : Type 0) → Type 0
MigrationKeeps (Err (Other (Refused why))) same_old same_new kept = same_old × same_new
MigrationKeeps (Err (OfFile Old why)) same_old same_new kept = same_new
MigrationKeeps (Err (OfFile New refusal.WrongFile)) same_old same_new kept = same_old × same_new
MigrationKeeps (Err (OfFile New refusal.AlreadyFormatted)) same_old same_new kept = kept
MigrationKeeps end same_old same_new kept = Unit {0}

-- the old file is that of segment i of n, and holds something
abbrev pub IsOldFile : ℕ → ℕ → List ℕ → Type 0
IsOldFile i n b = OldHead b i n × ((k : ℕ) × (v : List ℕ) × OldHolds b k v)

-- the old file held number k, and the new one, which was unformatted, holds it with its value, and
-- nothing of what was there before
abbrev pub IsMigrated : (i n k : ℕ) (old new new' : Device) → Type 0
IsMigrated i n k old new new' = OldHead old.bytes i n
    × ((v : List ℕ) × OldHolds old.bytes k v × IsNewlyMade i n k v new new')

-- why the new file could not be made
abbrev pub IsNoCopy : (old new : List ℕ) → Refusal → Type 0
IsNoCopy old new refusal.WrongFile = length new ≢ FILE_LEN
IsNoCopy old new refusal.AlreadyFormatted = Unit {0}
IsNoCopy old new refusal.DeviceFailed = Unit {0}
IsNoCopy old new why = ⊥

-- and, as far as it can be known, what the files are
abbrev pub IsInTheWay : (i n : ℕ) (old_honest new_honest : Type 0) (old new : List ℕ) → Refusal → Type 0
IsInTheWay i n old_honest new_honest old new refusal.AlreadyFormatted =
    (old_honest → IsOldFile i n old) × (new_honest → IsFormatted new)
IsInTheWay i n old_honest new_honest old new refusal.DeviceFailed = old_honest → IsOldFile i n old
IsInTheWay i n old_honest new_honest old new why = Unit {0}

abbrev pub EndsMigration : (i n : ℕ) (old_honest new_honest : Type 0) (old new new' : Device) → MigrationEnd → Type 0
EndsMigration i n old_honest new_honest old new new' (Ok s) =
    (k : ℕ) × (s ≡ status.Done) × (old_honest → new_honest → IsMigrated i n k old new new')
EndsMigration i n old_honest new_honest old new new' (Err (Other (Output error))) =
    (k : ℕ) × (old_honest → new_honest → IsMigrated i n k old new new')
EndsMigration i n old_honest new_honest old new new' (Err (Other (Refused refusal.NoMemory))) = Unit {0}
EndsMigration i n old_honest new_honest old new new' (Err (OfFile Old why)) =
    old_honest → IsNoOldOpening i n old.bytes why
EndsMigration i n old_honest new_honest old new new' (Err (OfFile New why)) = IsNoCopy old.bytes new.bytes why
    × IsInTheWay i n old_honest new_honest old.bytes new.bytes why
EndsMigration i n old_honest new_honest old new new' end = ⊥

-- the new file after a crash during a migration: as a crash before could leave it, or unformatted, or the whole new one
-- with the number and value of the old file
abbrev pub MigrationLeaves : (i n : ℕ) (old new : Device) → List ℕ → Type 0
MigrationLeaves i n old new b = MayLeave new b
    ⊎ ((k : ℕ) × (v : List ℕ) × OldHead old.bytes i n × OldHolds old.bytes k v × (IsUnformatted b ⊎ IsFileOf i n k v b))
