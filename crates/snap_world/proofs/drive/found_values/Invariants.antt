use Rattle.std.proofs.Common.{◌≡◌, take, map}
use Rattle.snap_world.specs.{inside.Recovery.found_value}
use Rattle.snap_world.proofs.drive.found_values.Given as goal

abbrev pub invariant-loop-i : goal.invariant-loop-i
invariant-loop-i l = map (λ v. v.items) l.all.items ≡ take l.i (map found_value l.drives.items)
