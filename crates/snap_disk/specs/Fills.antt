-- Laws of fills: whatever bytes the model allows at touched places, some fill leaves them.
use Rattle.std.specs.Prelude.{◌≡◌, ℕ, ◌^◌, ◌<◌, Bool, List, length}
use Rattle.std.specs.Global.{Vec}
use Rattle.snap_disk.specs.Device.{Device, in_range, opened, MayLeave, DiffersWithin, IsTouched}
use Rattle.snap_disk.specs.{Fill.IsFilled, declared.fill.Fill.TheVariants.At}

-- the fill made of the bytes of new leads from old to new
pub record SomeFill (is_touched : ℕ → Bool) (old new : List ℕ) : Type 0 where
  pub bytes : Vec ℕ
  pub same : bytes.items ≡ new
  pub filled : IsFilled (At 0 bytes) is_touched old new

-- the bytes that a crash or a failed sync may leave
abbrev pub AnyCrash : Type 0
AnyCrash = (device : Device) (b : List ℕ) → length device.bytes < 2 ^ 63
    → MayLeave device b → SomeFill device.is_open device.bytes b

-- the bytes that a failed write of n bytes at `at` may leave
abbrev pub AnyFailedWrite : Type 0
AnyFailedWrite = (at n : ℕ) (old new : List ℕ) → length old < 2 ^ 63
    → DiffersWithin at n old new → SomeFill (in_range at n) old new

-- the bytes that a crash inside that write may leave: some fill leaves them at a crash right after
-- it, whether or not it failed
abbrev pub InsideAnyWrite : Type 0
InsideAnyWrite = (at n : ℕ) (old new : Device) (b : List ℕ) → length old.bytes < 2 ^ 63
    → IsTouched at n old new → MayLeave (opened at n old) b → SomeFill new.is_open new.bytes b
