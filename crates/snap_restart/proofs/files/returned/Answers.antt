use Rattle.std.proofs.{Common.arith, lemmas.Grind.common_steps}
use Rattle.snap_restart.proofs.files.returned.Goals as goal

pub keep-requires : goal.keep-requires
keep-requires g c = grind (arith, common_steps)

pub keep-requires-in-rest : goal.keep-requires-in-rest
keep-requires-in-rest g c = grind (arith, common_steps)

pub release-requires : goal.release-requires
release-requires g c = grind (arith, common_steps)

pub rest-preserved : goal.rest-preserved
rest-preserved g c = grind (arith, common_steps)

pub rest-init : goal.rest-init
rest-init g c = grind (arith, common_steps)

pub returns : goal.returns
returns g c = grind (arith, common_steps)
