use Rattle.std.proofs.{lemmas.Grind.common_steps, Common.arith}
use Rattle.snap_memory.proofs.scan_cache.take_entry.Goals as goal

pub returns-in_err-clone-in_default-clause-kept : goal.returns-in_err-clone-in_default-clause-kept
returns-in_err-clone-in_default-clause-kept g c = grind (arith, common_steps)

pub returns-in_ok-clone-in_default-clause-entry : goal.returns-in_ok-clone-in_default-clause-entry
returns-in_ok-clone-in_default-clause-entry g c = grind (arith, common_steps)

pub returns-in_ok-clone-in_default-clause-kept : goal.returns-in_ok-clone-in_default-clause-kept
returns-in_ok-clone-in_default-clause-kept g c = grind (arith, common_steps)
