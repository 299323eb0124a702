use Rattle.snap_restart.proofs.Crash.{backs_opened, backs_stopped}
use Rattle.snap_laws.proofs.Openings.{come_through}
use Rattle.snap_laws.proofs.crashes.open_and_give_back.Goals as goal

pub returns-in-Ok : goal.returns-in-Ok
returns-in-Ok g c =
    let told = c.in-Ok.ensures in
    rw c.close.ensures.devices (come_through g.D.Disk g.met.D.Disk.counts_now _ _ told.kept_ok
    (backs_opened g.D.Disk _ _ told.opened))

pub returns : goal.returns
returns g c =
    let told = c.in-Err.ensures in
    come_through g.D.Disk g.met.D.Disk.counts_now _ _ told.kept_err (backs_stopped g.D.Disk _ _ _ _ told.stopped)
