use Rattle.std.proofs.{Common.arith, lemmas.Grind.common_steps}
use Rattle.snap_file_commands.proofs.loads.load.Goals as goal

pub returns-clause-ends : goal.returns-clause-ends
returns-clause-ends g c = grind (arith, common_steps)

pub returns-clause-any_time : goal.returns-clause-any_time
returns-clause-any_time g c = grind (arith, common_steps)

pub returns-clause-spared : goal.returns-clause-spared
returns-clause-spared g c = grind (arith, common_steps)
