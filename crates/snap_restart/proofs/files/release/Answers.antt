use Rattle.std.proofs.{Common.arith, lemmas.Grind.common_steps}
use Rattle.snap_restart.proofs.files.release.Goals as goal

pub keep-requires : goal.keep-requires
keep-requires g c = grind (arith, common_steps)

pub segments-preserved : goal.segments-preserved
segments-preserved g c = grind (arith, common_steps)
