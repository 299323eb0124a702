use Rattle.std.proofs.Common.{rules}
use Rattle.snap_slot.proofs.{OldSame.old_damaged, OldSame.old_found, Readings.wrong_header}
use Rattle.snap_slot.proofs.old_recovery.recover_old.Goals as goal

pub returns-in-Open-clause-found : goal.returns-in-Open-clause-found
returns-in-Open-clause-found c = search (rules, old_found)

pub returns-in-Open-clause-refused : goal.returns-in-Open-clause-refused
returns-in-Open-clause-refused c = search (rules, old_damaged)

pub returns-in_default-clause-refused : goal.returns-in_default-clause-refused
returns-in_default-clause-refused c = search (rules, wrong_header)

pub returns-in_default-2-clause-refused : goal.returns-in_default-2-clause-refused
returns-in_default-2-clause-refused c = search (rules, wrong_header)
