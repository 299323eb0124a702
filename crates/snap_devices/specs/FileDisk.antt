-- An open file as a device, and before its first call.
use Rattle.std.specs.Prelude.{◌≡◌, ℕ, List, []}
use Rattle.snap_disk.specs.Device.{Device}
use Rattle.snap_devices.specs.{CallLog.device_after, Story.Story, declared.file.FileOf.FileOf}

-- by which path it was opened
abbrev pub file_path : {R S : Type 0} → FileOf R S → List ℕ
file_path disk = disk.opened_path.path.now

-- its story, of those of all files
abbrev pub story_of : {R S : Type 0} → (List ℕ → Story) → FileOf R S → Story
story_of stories disk = stories (file_path disk)

abbrev pub file_device : {R S : Type 0} → (List ℕ → Story) → FileOf R S → Device
file_device stories disk = device_after disk.len (story_of stories disk) disk.calls.items

-- No call was made, and so none failed.
pub record IsUncalled {R S : Type 0} (disk : FileOf R S) : Type 0 where
  pub log : disk.calls.items ≡ []
  pub failures : disk.failures ≡ 0
