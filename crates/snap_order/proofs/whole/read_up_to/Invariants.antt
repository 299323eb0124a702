use Rattle.std.proofs.Common.{length, ◌-◌, ◌≤◌, take}
use Rattle.std.specs.Io.KnownBytes.{Consumes}
use Rattle.snap_order.proofs.whole.read_up_to.Given as goal

abbrev pub invariant-loop-len : goal.invariant-loop-len
invariant-loop-len g l =
    (l.len ≤ length l.buffer) × Consumes (g.R.Read.remaining l.fn.reader) (g.R.Read.remaining l.reader)
    (take l.len l.buffer)

abbrev pub decreases-loop-len : goal.decreases-loop-len
decreases-loop-len g l = length l.buffer - l.len
