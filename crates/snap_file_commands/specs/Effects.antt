-- The bytes that a crash during a command leaves, and the ends that leave the device as it was.
use Rattle.std.specs.Prelude.{ℕ, List, Err}
use Rattle.snap_disk.specs.{Device.MayLeave, Time.LeavesOnly}
use Rattle.snap_order.specs.declared.order.FileOrder.{FileOrder, TheVariants.Format, TheVariants.Put}
use Rattle.snap_file_commands.specs.Commands.{End}
use Rattle.snap_file_commands.specs.declared.fault.CommandFault.TheVariants.{Refused, Input}
use Rattle.snap_disk.specs.declared.refusal.Refusal.TheVariants as refusal
use Rattle.snap_disk.specs.declared.disk.Disk as Disk

-- If the device is honest, whatever a crash at any time during the call leaves, and one after it, has P.
abbrev pub AnyCrashLeaves : {D : Type 0} (disk : Disk.Ghosts D) (old new : D) (P : List ℕ → Type 0) → Type 0
AnyCrashLeaves disk old new P = disk.is_honest new → LeavesOnly disk old new P

-- And whatever it leaves, a crash before the call could leave.
abbrev pub LeavesNoMore : {D : Type 0} (disk : Disk.Ghosts D) (old new : D) → Type 0
LeavesNoMore disk old new = AnyCrashLeaves disk old new (MayLeave (disk.device old))

-- `same`: the device is the same, with no call made. `kept`: a crash leaves no more of it than one before could.

abbrev pub MakingKeeps : (same kept : Type 0) → End → Type 0
MakingKeeps same kept (Err (Refused refusal.NoMemory)) = same
MakingKeeps same kept (Err (Refused refusal.WrongFile)) = same
MakingKeeps same kept (Err (Refused refusal.AlreadyFormatted)) = kept
MakingKeeps same kept end = Unit {0}

-- each refusal of a store, unless the device failed
abbrev pub StoreKeeps : (kept : Type 0) → End → Type 0
StoreKeeps kept (Err (Refused refusal.DeviceFailed)) = Unit {0}
StoreKeeps kept (Err (Refused why)) = kept
StoreKeeps kept end = Unit {0}

abbrev pub PutKeeps : (same kept : Type 0) → End → Type 0
PutKeeps same kept (Err (Input error)) = same
PutKeeps same kept (Err (Refused refusal.TooLong)) = same
PutKeeps same kept end = StoreKeeps kept end

-- The other commands never write: a crash during one leaves no more than one before.
abbrev pub OrderKeeps : FileOrder → (same kept : Type 0) → End → Type 0
OrderKeeps (Format file i n) same kept end = MakingKeeps same kept end
OrderKeeps (Put file i n) same kept end = PutKeeps same kept end
OrderKeeps order same kept end = Unit {0}
