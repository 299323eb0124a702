use Rattle.std.proofs.Common.{rules}
use Rattle.snap_slot.proofs.{Readings.wrong_header, Whole.damaged}
use Rattle.snap_slot.proofs.recovery.recover.Goals as goal

pub returns-in-Open-clause-refused : goal.returns-in-Open-clause-refused
returns-in-Open-clause-refused c = search (rules, damaged)

pub returns-in_default-clause-refused : goal.returns-in_default-clause-refused
returns-in_default-clause-refused c = search (rules, wrong_header)

pub returns-in_default-2-clause-refused : goal.returns-in_default-2-clause-refused
returns-in_default-2-clause-refused c = search (rules, wrong_header)
