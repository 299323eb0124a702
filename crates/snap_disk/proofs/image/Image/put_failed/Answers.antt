use Rattle.std.proofs.{lemmas.Grind.common_steps, Common.arith}
use Rattle.snap_disk.proofs.image.Image.put_failed.Goals as goal

pub returns-clause-touched : goal.returns-clause-touched
returns-clause-touched c = grind (arith, common_steps)

pub returns-clause-filled : goal.returns-clause-filled
returns-clause-filled c = grind (arith, common_steps)
