use Rattle.std.proofs.Common.{length}
use Rattle.snap_script.proofs.Crashes.{words_after, IsRead}
use Rattle.snap_script.proofs.line.crash.Given as goal

abbrev pub decreases-loop-rest : goal.decreases-loop-rest
decreases-loop-rest l = length (words_after l.rest)

abbrev pub invariant-loop-rest : goal.invariant-loop-rest
invariant-loop-rest l = IsRead l.operands l.fills.items l.rest
