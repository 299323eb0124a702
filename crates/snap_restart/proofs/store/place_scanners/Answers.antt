use Rattle.std.proofs.{Common.arith, lemmas.Grind.common_steps}
use Rattle.snap_restart.proofs.store.place_scanners.Goals as goal

pub keep-requires : goal.keep-requires
keep-requires c = grind (arith, common_steps)
