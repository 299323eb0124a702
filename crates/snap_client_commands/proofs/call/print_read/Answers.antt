use Rattle.std.proofs.{Common.inr, KnownBytes.Keeps-refl}
use Rattle.snap_client_commands.proofs.call.print_read.Goals as goal

pub returns-in-None : goal.returns-in-None
returns-in-None g c =
    rw (c.in-Get-Part.is-0, c.in-Get-Part.is-1) (inr (
      rw c.deref.ensures.value at c.in-None.ensures,
      c.give_up.ensures,
      Keeps-refl _,
    ))
