use Rattle.std.proofs.Common.{◌≤◌, Result}
use Rattle.snap_frame.specs.declared.reply.Reply.{Reply}
use Rattle.snap_client.specs.{declared.fault.ClientFault.ClientFault, Again.TriesUpTo}
use Rattle.snap_client.proofs.again.call_again.Given as goal

abbrev pub invariant-loop-left : goal.invariant-loop-left
invariant-loop-left g l = record {
  callable : goal.F-IsAlwaysCallable g l.connect;
  some : 1 ≤ l.left;
  rest : (result : Result Reply ClientFault) (last : _)
      → TriesUpTo l.left (goal.F-step g) g.R.Read.remaining g.W.Write.contents l.request l.connect result last
      → TriesUpTo l.tries (goal.F-step g) g.R.Read.remaining g.W.Write.contents l.request l.fn.connect result last;
}

abbrev pub decreases-loop-left : goal.decreases-loop-left
decreases-loop-left g l = l.left
