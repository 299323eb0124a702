-- The plan, the calls and the images of a device in memory.
use Rattle.std.specs.Prelude.{ℕ, ◌+◌, ◌-◌, ◌^◌, min, List, length, Option}
use Rattle.snap_disk.specs.{Device.Device, Image.image_device, declared.fill.Fill.Fill, declared.image.Image.Image}
use Rattle.snap_devices.specs.{FaultPlan.planned_fill, Past.LeftFrom, declared.fault_plan.FaultPlan.FaultPlan}
use Rattle.snap_devices.specs.declared.memory.MemDisk.{MemDisk}

abbrev pub memory_device : MemDisk → Device
memory_device disk = image_device disk.image

-- which of its calls fail
abbrev pub memory_plan : MemDisk → FaultPlan
memory_plan disk = disk.plan

-- how many calls were made
abbrev pub memory_calls : MemDisk → ℕ
memory_calls disk = disk.calls

-- the number of the next one: the count stays at the greatest number that it can hold
abbrev pub next_call : MemDisk → ℕ
next_call disk = min (disk.calls + 1) (2 ^ 64 - 1)

-- the fill that the next call leaves, if it is planned to fail
abbrev pub next_fill : MemDisk → Option Fill
next_fill disk = planned_fill disk.plan (next_call disk)

-- how many of them failed
abbrev pub memory_failures : MemDisk → ℕ
memory_failures disk = disk.failures

-- its image now
abbrev pub memory_image : MemDisk → Image
memory_image disk = disk.image

-- its images before each of its calls, the newest first
abbrev pub memory_past : MemDisk → List Image
memory_past disk = disk.past.items

-- its clock: how many calls were made
abbrev pub memory_clock : MemDisk → ℕ
memory_clock disk = length disk.past.items

-- the bytes that a crash at this time of the clock or later could have left
abbrev pub memory_left : MemDisk → ℕ → List ℕ → Type 0
memory_left disk = LeftFrom (memory_device disk) disk.past.items
