use Rattle.std.proofs.Common.{◌≡◌, ◌≤◌, length, take}
use Rattle.std.specs.{Prelude.vec_len, Prelude.vec_capacity}
use Rattle.snap_world.specs.{Surface.IsRun}
use Rattle.snap_world.proofs.world.World.run.Given as goal

abbrev pub invariant-loop-i : goal.invariant-loop-i
invariant-loop-i l = record {
  run : IsRun l.fn.self (take l.i l.events) l.replies.items l.self;
  count : vec_len l.replies ≡ l.i;
  room : length l.events ≤ vec_capacity l.replies;
}
