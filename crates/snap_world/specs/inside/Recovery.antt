-- The results of a restart's reads, and the registers and persists made of them.
use Rattle.std.specs.Prelude.{◌≡◌, ℕ, ◌+◌, ◌≤◌, List, length, Some, slice_get}
use Rattle.snap_slot.specs.{declared.layout.TheConstants.FILE_LEN, Layout.slot_of, Findings.value_in}
use Rattle.snap_history.specs.{declared.limits.TheConstants.MAX_VALUE_LEN, Limits.IsNumber, Pairs.Pairs}
use Rattle.snap_persist.specs.Stage.{calls_left, first_stage, store_calls}
use Rattle.snap_world.specs.{inside.Drives.device_of, declared.drive.Drive.Drive, declared.register.Register.Register}

-- the value that was found
abbrev pub found_value : Drive → List ℕ
found_value d = value_in (device_of d).bytes (slot_of d.found.number) d.found.length

-- the number and the value that were found are within their limits
pub record IsReadable (d : Drive) : Type 0 where
  pub size : length (device_of d).bytes ≡ FILE_LEN
  pub number : IsNumber d.found.number
  pub fits : d.found.length ≤ MAX_VALUE_LEN

abbrev pub AllReadable : List Drive → Type 0
AllReadable drives = (i : ℕ) (d : Drive) → slice_get drives i ≡ Some d → IsReadable d

-- the device is unchanged, and the persist is that of the store after the number that was found
pub record IsResumed (d e : Drive) : Type 0 where
  pub image : e.image ≡ d.image
  pub slot : e.persist.slot ≡ slot_of (d.found.number + 1)
  pub stage : e.persist.stage ≡ first_stage d.found.spare_open
  pub calls : calls_left e.persist.stage ≡ store_calls d.found.spare_open

-- the register has the number and the value that were found
pub record IsRecovered (d : Drive) (r s : Register) : Type 0 where
  pub number : s.number ≡ d.found.number
  pub value : s.value ≡ found_value d
  pub view : s.view ≡ r.view

abbrev pub AreRecovered : List Drive → List Register → List Register → Type 0
AreRecovered drives old new = Pairs (λ i r s. (d : Drive) → slice_get drives i ≡ Some d → IsRecovered d r s) old new
