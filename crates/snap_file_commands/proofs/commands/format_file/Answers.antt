use Rattle.std.proofs.{Common.arith, lemmas.Grind.common_steps}
use Rattle.snap_file_commands.proofs.commands.format_file.Goals as goal

pub returns-clause-any_time : goal.returns-clause-any_time
returns-clause-any_time g c = grind (arith, common_steps)
