use Rattle.std.proofs.Common.{◌≡◌, Some, slice_get}
use Rattle.snap_disk.specs.{declared.fill.Fill.Fill}
use Rattle.snap_world.specs.{inside.Drives.IsCrashed}
use Rattle.snap_world.proofs.{Sweep.Swept}
use Rattle.snap_world.proofs.drive.crash_all.Given as goal

abbrev pub invariant-loop-i : goal.invariant-loop-i
invariant-loop-i l = Swept (λ i d e. (fill : Fill) → slice_get l.fills.items i ≡ Some fill
    → IsCrashed fill d e) l.i l.initial.drives.items l.drives.items
