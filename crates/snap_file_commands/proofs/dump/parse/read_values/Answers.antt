use Rattle.std.proofs.{Common.arith, lemmas.Grind.common_steps}
use Rattle.snap_file_commands.proofs.dump.parse.read_values.Goals as goal

pub loop-index-preserved : goal.loop-index-preserved
loop-index-preserved c = grind (arith, common_steps)
