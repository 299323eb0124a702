use Rattle.std.proofs.{Common.◌≡◌, Common.length}
use Rattle.snap_world.specs.{inside.Fresh.Each, inside.Fresh.IsFreshRegister}
use Rattle.snap_world.proofs.start.new_registers.Given as goal

abbrev pub invariant-loop-i : goal.invariant-loop-i
invariant-loop-i l = record {
  count : length l.registers.items ≡ l.i;
  each : Each (IsFreshRegister l.segments) l.registers.items;
}
