use Rattle.std.proofs.{Common.arith, lemmas.Grind.common_steps}
use Rattle.snap_service.proofs.reads.list_statuses.Goals as goal

pub loop-standing-preserved : goal.loop-standing-preserved
loop-standing-preserved g c = grind (arith, common_steps)
