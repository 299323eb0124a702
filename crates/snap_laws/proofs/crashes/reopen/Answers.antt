use Rattle.std.proofs.lemmas.List.{length-map}
use Rattle.snap_laws.proofs.Again.{go_on_behind}
use Rattle.snap_laws.proofs.crashes.reopen.Goals as goal

pub returns-in-Ok : goal.returns-in-Ok
returns-in-Ok g c =
    let told = c.close.ensures.crash in
    go_on_behind g.D.Disk _ told.0 _ _ c.in-Ok.store.writers.items c.requires.writers.1 told.1 told.2
    (rw c.close.ensures.devices at c.in-Ok.ensures.opened) (rw c.close.ensures.devices at c.in-Ok.ensures.crash)

pub open_all-requires-clause-count : goal.open_all-requires-clause-count
open_all-requires-clause-count g c =
    rw (c.close.ensures.devices, length-map) (c.requires.back.some, c.requires.back.few)

pub open_all-requires-clause-headroom : goal.open_all-requires-clause-headroom
open_all-requires-clause-headroom g c = rw c.close.ensures.devices c.requires.headroom
