use Rattle.std.proofs.Common.{arith}
use Rattle.snap_client_commands.proofs.put.update.Goals as goal

pub returns-in-Err : goal.returns-in-Err
returns-in-Err c = grind arith
