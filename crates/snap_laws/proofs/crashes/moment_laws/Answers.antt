use Rattle.snap_laws.proofs.Moment.{crash_at_once, come_over}
use Rattle.snap_laws.proofs.crashes.moment_laws.Goals as goal

pub returns-clause-at_once : goal.returns-clause-at_once
returns-clause-at_once g c = crash_at_once g.D.Disk

pub returns-clause-over : goal.returns-clause-over
returns-clause-over g c = come_over g.D.Disk
