use Rattle.std.proofs.Common.{◌≡◌, take, map}
use Rattle.snap_world.proofs.collector.bytes_of_all.Given as goal

abbrev pub invariant-loop-i : goal.invariant-loop-i
invariant-loop-i l = map (λ v. v.items) l.all.items ≡ take l.i l.values.items
