use Rattle.snap_laws.proofs.NoLoss.{is_a_writer}
use Rattle.snap_laws.proofs.crashes.open_and_go_on.Goals as goal

pub goes_on-requires : goal.goes_on-requires
goes_on-requires g c =
    is_a_writer g.D.Disk _ _ _ _ _ _ c.in-Some.ensures.opened c.pop.ensures.items c.in-Some-pop.is
    c.update.ensures.updated.lived
