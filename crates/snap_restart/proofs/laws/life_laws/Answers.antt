use Rattle.snap_restart.proofs.{Lives.life_fits, Placed.phase_leaves, LifeDurability.stays}
use Rattle.snap_restart.proofs.laws.life_laws.Goals as goal

pub returns-clause-lives : goal.returns-clause-lives
returns-clause-lives g c = life_fits g.D.Disk

pub returns-clause-phases : goal.returns-clause-phases
returns-clause-phases g c plan n i p b is left = phase_leaves g.D.Disk plan n i p is b left

pub returns-clause-stays : goal.returns-clause-stays
returns-clause-stays g c plan n i = stays g.D.Disk plan n i g.met.D.Disk.only_now
