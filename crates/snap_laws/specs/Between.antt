-- Commands that run on a file between two openings.
use Rattle.std.specs.Prelude.{◌≡◌, ◌⊎◌, ℕ, List, [], ◌∷◌, ◌++◌, map, Option, Some, IfSome, slice_get, slice_set}
use Rattle.snap_disk.specs.Device.{MayLeave}
use Rattle.snap_segment.specs.Segment.{SegmentState}
use Rattle.snap_history.specs.History.{Update, Start}
use Rattle.snap_restart.specs.Restarts.{Restarts, update, without, from_there}
use Rattle.snap_order.specs.declared.order.FileOrder.{FileOrder}
use Rattle.snap_order.specs.declared.order.FileOrder.TheVariants.{Format, Put, Get, Check, Slot}
use Rattle.snap_disk.specs.declared.disk.Disk as Disk

module _ {D : Type 0} (disk : Disk.Ghosts D) where
  -- if the file of segment i is on the device `old`: all that happened to the files continues with these moments, and
  -- with the device `new` in place of `old`
  abbrev pub GoesOnWith : (n i : ℕ) → List (List Update) → D → D → Type 0
  GoesOnWith n i more old new = (start : Start) (moments : List (List Update)) (devices : List D)
      → slice_get devices i ≡ Some old → Restarts disk n start moments devices
      → Restarts disk n start (more ++ moments) (slice_set devices i new)

  -- if the device is honest: it continues with the update to the value that was read
  abbrev pub PutGoesOn : FileOrder → Option (List ℕ) → D → D → Type 0
  PutGoesOn (Put file i n) known old new = disk.is_honest new → (v : List ℕ) × IfSome known (λ xs. xs ≡ v)
      × GoesOnWith n i ((update i v ∷ []) ∷ []) old new
  PutGoesOn (Format file i n) known old new = Unit {0}
  PutGoesOn (Get file i n) known old new = Unit {0}
  PutGoesOn (Check file is_json) known old new = Unit {0}
  PutGoesOn (Slot file slot) known old new = Unit {0}

  -- if the device is honest: it continues with any device of which a crash leaves only what one since this store of v
  -- began could leave
  abbrev pub CutOffGoesOn : List ℕ → SegmentState D → SegmentState D → Type 0
  CutOffGoesOn v old new = disk.is_honest new.device → (cut : D) → ((b : List ℕ) → MayLeave (disk.device cut) b
      → disk.might_have_left new.device (disk.clock old.device) b)
      → GoesOnWith old.count old.index ([] ∷ []) old.device cut

  -- if the file of segment i was lost: all other segments continue, and segment i begins again on this device, with
  -- number k and value v
  abbrev pub BeginsAgain : (n i k : ℕ) → List ℕ → D → Type 0
  BeginsAgain n i k v new = (start : Start) (moments : List (List Update)) (devices : List D) (lost : D)
      → slice_get devices i ≡ Some lost → Restarts disk n start moments devices
      → Restarts disk n (from_there start i k v) (map (without i) moments) (slice_set devices i new)

  abbrev pub InitGoesOn : (i n : ℕ) → D → D → Type 0
  InitGoesOn i n old new = disk.is_honest new → GoesOnWith n i [] old new ⊎ BeginsAgain n i 0 [] new
