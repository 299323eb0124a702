use Rattle.snap_laws.proofs.NoLoss.{loses_nothing}
use Rattle.snap_laws.proofs.crashes.goes_on.Goals as goal

pub returns : goal.returns
returns g c =
    loses_nothing g.D.Disk _ _ _ c.life_laws.ensures.stays c.requires c.update.ensures.updated.lived
    c.update-2.ensures.updated.lived
