use Rattle.snap_session.proofs.TurnRuns.{sends_more}
use Rattle.snap_session.proofs.turns.send_owed.Goals as goal

pub loop-writer-preserved : goal.loop-writer-preserved
loop-writer-preserved g c =
    sends_more _ _ _ _ _ _ c.in-Ok.n _ c.loop-writer.invariant c.owed-in-loop-writer.ensures
    c.in-Ok.ensures.bytes c.sent.ensures
