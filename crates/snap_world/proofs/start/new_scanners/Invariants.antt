use Rattle.std.proofs.{Common.◌≡◌, Common.length}
use Rattle.snap_world.specs.{inside.Fresh.Each, inside.Fresh.IsFreshScanner}
use Rattle.snap_world.proofs.start.new_scanners.Given as goal

abbrev pub invariant-loop-i : goal.invariant-loop-i
invariant-loop-i l = record {
  count : length l.scanners.items ≡ l.i;
  each : Each (IsFreshScanner l.segments) l.scanners.items;
}
