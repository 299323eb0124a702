use Rattle.std.proofs.Common.{◌-◌, ◌^◌, ◌<◌, Err}
use Rattle.snap_client.specs.Again.{TriesUpTo}
use Rattle.snap_client.proofs.again.call_while.Given as goal

abbrev pub invariant-loop-left : goal.invariant-loop-left
invariant-loop-left g l = record {
  callable : goal.F-IsAlwaysCallable g l.connect;
  within : l.left < 2 ^ 64;
  tried : TriesUpTo (2 ^ 64 - l.left) (goal.F-step g) g.R.Read.remaining g.W.Write.contents l.request
      l.fn.connect (Err l.fault) l.connect;
}

abbrev pub decreases-loop-left : goal.decreases-loop-left
decreases-loop-left g l = l.left
