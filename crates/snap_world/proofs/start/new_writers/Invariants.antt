use Rattle.std.proofs.{Common.◌≡◌, Common.length}
use Rattle.snap_world.specs.{inside.Fresh.Each, inside.Fresh.IsFreshWriter}
use Rattle.snap_world.proofs.start.new_writers.Given as goal

abbrev pub invariant-loop-i : goal.invariant-loop-i
invariant-loop-i l = record {
  count : length l.writers.items ≡ l.i;
  each : Each (IsFreshWriter l.segments) l.writers.items;
}
