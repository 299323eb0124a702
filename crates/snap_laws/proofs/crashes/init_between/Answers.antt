use Rattle.snap_laws.proofs.Between.{init_end}
use Rattle.snap_laws.proofs.crashes.init_between.Goals as goal

pub returns : goal.returns
returns g c = init_end g.D.Disk g.met.D.Disk.counts_now _ _ _ _ _ c.found.ensures.ends c.found.ensures.spared
