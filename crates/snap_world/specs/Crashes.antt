-- Each outcome of a fault or a crash that the disk model allows is left by some fill.
use Rattle.std.specs.Prelude.{◌≡◌, ℕ, List, length, Some, slice_get, slice_set}
use Rattle.std.specs.Global.{Vec}
use Rattle.snap_disk.specs.Device.{Device, opened, IsTouched, IsUnsynced}
use Rattle.snap_disk.specs.declared.fill.Fill.{Fill}
use Rattle.snap_history.specs.Pairs.{Pairs}
use Rattle.snap_world.specs.Devices.{AreRefilled, Changes, IsWriteFailed, IsRefilled}

-- the disk model lets a crash leave this of the devices: any bytes at the open places of each
abbrev pub CrashMayLeave : List Device → List Device → Type 0
CrashMayLeave devices left = Pairs (λ i. IsUnsynced) devices left

-- the event of a crash leaves this of the devices, with some fills, one for each
pub record SomeCrashLeaves (devices left : List Device) : Type 0 where
  pub fills : Vec Fill
  pub one_each : length fills.items ≡ length devices
  pub filled : AreRefilled fills.items devices left

-- whatever a crash may leave of these devices, it leaves with some fills
pub record AnyCrash (devices : List Device) : Type 0 where
  pub leaves : (left : List Device) → CrashMayLeave devices left → SomeCrashLeaves devices left

-- whatever a crash may leave inside a write at device w, which opens n places from `at` on, a crash
-- right after that write leaves, whether or not the write failed
pub record CrashInsideAnyWrite (devices : List Device) : Type 0 where
  pub leaves : (w at n : ℕ) (device : Device) (after left : List Device)
      → slice_get devices w ≡ Some device → Changes w (IsTouched at n) devices after
      → CrashMayLeave (slice_set devices w (opened at n device)) left → SomeCrashLeaves after left

-- whatever a write or a sync that fails may leave of one of these devices, some fill leaves
pub record AnyFault (devices : List Device) : Type 0 where
  pub write : (w at n : ℕ) (old new : Device) → slice_get devices w ≡ Some old
      → IsTouched at n old new → (fill : Fill) × IsWriteFailed at n fill old new
  pub sync : (w : ℕ) (old new : Device) → slice_get devices w ≡ Some old
      → IsUnsynced old new → (fill : Fill) × IsRefilled fill old new
