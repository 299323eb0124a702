use Rattle.std.proofs.Common.{ℕ, List, subst, sym}
use Rattle.snap_frame.specs.declared.request.Request.{Request}
use Rattle.snap_service.specs.Tells.{TellsUpdate, Tells}
use Rattle.snap_service.proofs.desk.DeskService.finish.Goals as goal

pub returns-in-Update-clause-tells : goal.returns-in-Update-clause-tells
returns-in-Update-clause-tells g c =
    let number = c.in-Update.number in
    let reply = c.answer_outcome.result in
    let P : List ℕ → Type 0 = λ v. TellsUpdate c.args.outcome c.from.result number v reply in
    let Q : ℕ → Type 0 = λ s. TellsUpdate c.args.outcome s number c.in-Update.value reply in
    let R : Request → Type 0 = λ q. Tells c.args.outcome q reply in
    subst R (sym c.in-Update.is)
    (subst Q c.from.ensures (subst P c.as_slice.ensures c.answer_outcome.ensures.told))
