use Rattle.snap_laws.proofs.Together.{at_work}
use Rattle.snap_laws.proofs.crashes.two_at_once.Goals as goal

pub returns : goal.returns
returns g c =
    let is = at_work g.D.Disk _ _ _ _ _ _ c.requires.writers (c.update.ensures.updated.stored_first c.requires.first)
    (c.update-2.ensures.updated.stored_first c.requires.second) in
    record { inside = is.0; beside = is.1; between = is.2 }
