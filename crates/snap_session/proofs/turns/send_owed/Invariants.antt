use Rattle.std.proofs.Common.{length}
use Rattle.snap_session.specs.Turns.{Sends}
use Rattle.snap_session.proofs.turns.send_owed.Given as goal

abbrev pub invariant-loop-writer : goal.invariant-loop-writer
invariant-loop-writer g l = Sends l.fn.session l.session (g.W.Write.contents l.fn.writer) (g.W.Write.contents l.writer)

abbrev pub decreases-loop-writer : goal.decreases-loop-writer
decreases-loop-writer g l = length l.session.owed
