use Rattle.std.proofs.Common.{◌↔◌, ◌<◌, Contains, take, ℕ}
use Rattle.snap_frame.specs.Sets.{Names}
use Rattle.snap_client_commands.proofs.watch.exchange.set_of.Given as goal

-- the set names the segments so far, and isn't empty after the first one
abbrev pub invariant-loop-segment : goal.invariant-loop-segment
invariant-loop-segment l = ((k : ℕ) → (Names l.bits k ↔ Contains (take l.segment-index l.segments) k))
    × (0 < l.segment-index → 0 < l.bits)
