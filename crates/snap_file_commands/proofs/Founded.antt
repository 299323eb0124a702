-- A file of a folder that was kept, or neither made nor kept.
use Rattle.std.proofs.Common.{Bool, ◌≡◌, ℕ, List, length, Ok, Err, inl, inr}
use Rattle.snap_disk.specs.{Device.Device, Device.IsUnchanged, declared.refusal.Refusal.Refusal}
use Rattle.snap_slot.specs.Layout.{Head, Holds, IsFileOf, IsFormatted}
use Rattle.snap_slot.specs.{declared.layout.TheConstants.FILE_LEN, Findings.IsNoOpening, States.IsAtRest}
use Rattle.snap_segment.specs.{Refusals.IsOpenRefusal}
use Rattle.snap_file_commands.specs.{Commands.End}
use Rattle.snap_file_commands.specs.Foundation.{EndsFounding, EndsKeeping, HasKept, IsNotWhole, refusal_of_formatted}
use Rattle.snap_file_commands.specs.declared.fault.CommandFault.TheVariants.{Refused, Output}
use Rattle.snap_disk.specs.declared.disk.Disk as Disk
use Rattle.snap_disk.specs.declared.refusal.Refusal.TheVariants as refusal

-- an opening that was refused
pub unopened : (honest : Type 0) (i n : ℕ) (old new : Device) (why : Refusal) → IsOpenRefusal why
    → (honest → IsNoOpening i n old.bytes why)
    → EndsKeeping honest i n old new (Err (Refused (refusal_of_formatted why)))
unopened honest i n old new refusal.NoMemory refused not_open = tt
unopened honest i n old new refusal.DeviceFailed refused not_open = tt
unopened honest i n old new refusal.Damaged refused not_open = λ h formatted k v file. (not_open h).2 k v file.holds
unopened honest i n old new refusal.Unformatted refused not_open =
    λ h formatted k v file. absurd ((not_open h).1 formatted)
unopened honest i n old new refusal.WrongFile refused not_open =
    λ h formatted k v file. elim (not_open h) [ inl long ↦ long file.size | inr other ↦ other.1 file.head ]
unopened honest i n old new why refused not_open = absurd refused

-- a file that was opened is kept
pub kept : {D : Type 0} (disk : Disk.Ghosts D) (i n k : ℕ) (v : List ℕ) (spare : Bool) (old mid new : D) → new ≡ mid
    → length (disk.device old).bytes ≡ FILE_LEN
    → (disk.is_honest mid → Head (disk.device old).bytes i n × Holds (disk.device old).bytes k v)
    → (disk.is_honest mid → IsAtRest i n k v spare (disk.device mid))
    → disk.is_honest new → HasKept i n k v (disk.device old) (disk.device new)
kept disk i n k v spare old mid new is size holds rests honest =
    let file = holds (rw is at honest) in
    let was : IsFileOf i n k v (disk.device old).bytes = record { size = size; head = file.0; holds = file.1 } in
    record { was = was; spare_open = spare; rests = rw is (rests (rw is at honest)) }

kept_from : (i n k : ℕ) (v : List ℕ) (old mid new : Device) → IsUnchanged old mid
    → HasKept i n k v mid new → HasKept i n k v old new
kept_from i n k v old mid new same is =
    record { was = rw same.same at is.was; spare_open = is.spare_open; rests = is.rests }

not_whole_from : (i n : ℕ) (old mid : Device) → IsUnchanged old mid → IsFormatted old.bytes
    → (IsFormatted mid.bytes → IsNotWhole i n mid.bytes) → IsFormatted old.bytes × IsNotWhole i n old.bytes
not_whole_from i n old mid same formatted not = (formatted, (rw same.same at not) formatted)

-- keeping a file after it was read, in terms of `found`
pub keeping : (honest : Type 0) (i n : ℕ) (old mid new : Device) (end : End) → (honest → IsUnchanged old mid)
    → (honest → IsFormatted old.bytes) → EndsKeeping honest i n mid new end → EndsFounding honest i n old new end
keeping honest i n old mid new (Ok s) same formatted (done, (k, v, is)) =
    (done, inr (k, v, (λ h. kept_from i n k v old mid new (same h) (is h))))
keeping honest i n old mid new (Err (Output error)) same formatted (k, v, is) =
    inr (k, v, (λ h. kept_from i n k v old mid new (same h) (is h)))
keeping honest i n old mid new (Err (Refused refusal.AlreadyFormatted)) same formatted not =
    λ h. not_whole_from i n old mid (same h) (formatted h) (not h)
keeping honest i n old mid new (Err (Refused refusal.DeviceFailed)) same formatted ends = λ _. tt
keeping honest i n old mid new (Err (Refused refusal.NoMemory)) same formatted ends = λ _. tt
keeping honest i n old mid new end same formatted ends = absurd ends
