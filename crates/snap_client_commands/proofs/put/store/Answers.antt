use Rattle.std.proofs.Common.{inr}
use Rattle.snap_client_commands.proofs.Tried.{tries_leave, tries_say}
use Rattle.snap_client_commands.proofs.put.store.Goals as goal

pub go_on-requires-clause-told : goal.go_on-requires-clause-told
go_on-requires-clause-told g c = tries_say _ _ _ _ _ _ _ _ c.answer_to-told.ensures

pub go_on-requires-clause-callable : goal.go_on-requires-clause-callable
go_on-requires-clause-callable g c = tries_leave g.F.FnMut _ _ _ _ _ _ _ c.requires.callable c.answer_to-told.ensures

pub returns-in-None-clause-puts : goal.returns-in-None-clause-puts
returns-in-None-clause-puts g c = rw c.in-None.is (inr (
  c.in-Ok.value,
  c.in-Ok.ensures.value,
  (
    c.answer_to-told.result,
    c.answer_to-told.new.connect,
    rw c.tries_of.ensures.value at c.answer_to-told.ensures,
    c.go_on.ensures,
  ),
))
