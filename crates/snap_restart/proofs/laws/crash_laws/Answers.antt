use Rattle.snap_history.proofs.Beginnings.{beginning-trans}
use Rattle.snap_register.specs.Rule.{segments}
use Rattle.snap_restart.proofs.LifeCrash.{cut_recovers, instant_recovers, moment_consistent, moment_recovers}
use Rattle.snap_restart.proofs.laws.crash_laws.Goals as goal

pub returns-clause-cut : goal.returns-clause-cut
returns-clause-cut g c = cut_recovers g.D.Disk

pub returns-clause-consistent : goal.returns-clause-consistent
returns-clause-consistent g c = moment_consistent

pub returns-clause-instant : goal.returns-clause-instant
returns-clause-instant g c = instant_recovers

pub returns-clause-moment : goal.returns-clause-moment
returns-clause-moment g c plan = moment_recovers g.D.Disk plan (segments plan)

pub returns-clause-scans : goal.returns-clause-scans
returns-clause-scans g c before after memory visible is seen =
    (is.part, beginning-trans is.part after.seen visible is.within seen, is.is_memory)
