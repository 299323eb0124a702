-- The device after a store that succeeded, in terms of the command.
use Rattle.std.proofs.Common.{◌≡◌, ◌⊎◌, ℕ, ◌+◌, List, length, Option, Err, inl, inr}
use Rattle.snap_disk.specs.Device.{Device, IsSettled, MayLeave}
use Rattle.snap_disk.specs.{Time.LeavesOnly, Laws.then, Laws.weaker, declared.refusal.Refusal.TheVariants.TooLong}
use Rattle.snap_slot.specs.Layout.{Head, Holds, IsFileOf}
use Rattle.snap_slot.specs.{declared.layout.TheConstants.FILE_LEN, States.IsEither}
use Rattle.snap_segment.specs.Segment.{SegmentState}
use Rattle.snap_order.specs.Streams.{Had}
use Rattle.snap_file_commands.specs.Commands.{IsStored, PutLeaves, End, EndsStore, EndsPut}
use Rattle.snap_file_commands.specs.declared.fault.CommandFault.TheVariants.{Refused, Input}
use Rattle.snap_disk.specs.declared.disk.Disk as Disk

-- the file holds what the segment that was opened on it does
pub held : (i n i' n' k : ℕ) (u b : List ℕ) → i' ≡ i → n' ≡ n → length b ≡ FILE_LEN
    → Head b i n × Holds b k u → IsFileOf i' n' k u b
held i n i' n' k u b same_i same_n size holds =
    record { size = size; head = rw (same_i, same_n) holds.0; holds = holds.1 }

pub stored : {i n k : ℕ} {u v : List ℕ} {old new : Device} → IsFileOf i n k u old.bytes
    → IsSettled new × ((b : List ℕ) → MayLeave new b → IsFileOf i n (k + 1) v b) → IsStored i n k v old new
stored {u = u} file last = record { value = u; head = file.head; held = file.holds; settled = last.0; lasts = last.1 }

-- an opening and a store after it, in terms of the command
pub put_leaves : {D : Type 0} (disk : Disk.Ghosts D) (honest : Type 0) (old : D) (mid new : SegmentState D)
    (device : Device) (known : Option (List ℕ)) (i n : ℕ) (v : List ℕ) → honest → mid.index ≡ i → mid.count ≡ n
    → Had known v → Head device.bytes i n × Holds device.bytes mid.number mid.value
    → LeavesOnly disk old mid.device (MayLeave device) → (new ≡ mid) ⊎ (honest
    → LeavesOnly disk mid.device new.device (IsEither mid.index mid.count mid.number mid.value v))
    → LeavesOnly disk old new.device (PutLeaves i n known device)
put_leaves disk honest old mid new device known i n v is same_i same_n had holds first (inl same) =
    rw same (weaker disk old mid.device (MayLeave device) (PutLeaves i n known device) first (λ b left. inl left))
put_leaves disk honest old mid new device known i n v is same_i same_n had holds first (inr second) =
    then disk old mid.device new.device (MayLeave device) (IsEither mid.index mid.count mid.number mid.value v)
    (PutLeaves i n known device) first (second is) (λ b left. inl left)
    (λ b either. inr (v, had, (mid.number, mid.value, holds.0, holds.1, rw (same_i, same_n) at either)))

-- a put that got to the store ends as the store does
module _ (honest : Type 0) (i n : ℕ) (known : Option (List ℕ)) (v : List ℕ) (old new : Device)
    (out out' : Option (List ℕ)) where
  pub store_ends_put : (end : End) → Had known v → EndsStore honest i n v old new out out' end
      → EndsPut honest i n known old new out out' end
  store_ends_put (Err (Input error)) had ends = absurd ends
  store_ends_put (Err (Refused TooLong)) had ends = absurd ends
  store_ends_put end had ends = (v, had, ends)
