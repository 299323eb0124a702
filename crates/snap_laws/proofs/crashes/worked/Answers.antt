use Rattle.snap_laws.proofs.Openings.{now, keep_a_start}
use Rattle.snap_laws.proofs.crashes.worked.Goals as goal

pub returns-in-Ok : goal.returns-in-Ok
returns-in-Ok g c =
    let told = c.close.ensures.crash in
    let opened = c.in-Ok.ensures in
    rw c.close.ensures.devices (record {
      now = now g.D.Disk told.0 _ _ _ opened.crash told.1 told.2;
      start = keep_a_start g.D.Disk _ _ opened.opened opened.crash;
    })
