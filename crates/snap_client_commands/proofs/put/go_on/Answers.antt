use Rattle.std.proofs.{Common.inr, Common.refl, KnownBytes.Keeps-refl}
use Rattle.snap_frame.specs.Messages.{AreEntries, IsStatus}
use Rattle.snap_client_commands.proofs.Tried.{number_next}
use Rattle.snap_client_commands.proofs.put.go_on.Goals as goal

pub update-requires-clause-next : goal.update-requires-clause-next
update-requires-clause-next g c =
    let told : AreEntries IsStatus c.in-Ok-Status.statuses.items =
    rw (c.in-Ok-Status.is, c.in-Ok-Status.field-0-is) at c.requires.told in
    number_next c.in-Ok-Status.statuses.items c.args.segment c.in-Ok.number told.each
    (rw c.deref.ensures.value at c.in-Ok.ensures.number)

pub returns-in-Err : goal.returns-in-Err
returns-in-Err g c =
    rw (c.in-Ok-Status.is, c.in-Ok-Status.field-0-is) (inr (
      rw c.deref.ensures.value at c.in-Err.ensures.none,
      refl,
      c.refuse.ensures,
      Keeps-refl _,
    ))
