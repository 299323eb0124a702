use Rattle.std.proofs.Common.{◌-◌, ◌^◌}
use Rattle.snap_laws.proofs.Again.{still_headroom}
use Rattle.snap_laws.proofs.crashes.open_twice.Goals as goal

pub reopen-requires-clause-writers : goal.reopen-requires-clause-writers
reopen-requires-clause-writers g c = (c.in-Ok.ensures.crash.plan, c.in-Ok.ensures.crash.writers_are)

pub reopen-requires-clause-headroom : goal.reopen-requires-clause-headroom
reopen-requires-clause-headroom g c =
    still_headroom g.D.Disk (2 ^ 64 - 1) c.args.devices.items c.in-Ok.store.writers.items
    c.in-Ok.ensures.opened c.requires.headroom
