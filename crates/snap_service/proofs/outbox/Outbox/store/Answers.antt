use Rattle.std.proofs.Common.{ℕ, subst, ◌∙◌}
use Rattle.snap_service.specs.Settled.{IsSettledAt}
use Rattle.snap_service.proofs.outbox.Outbox.store.Goals as goal

pub returns-clause-settled : goal.returns-clause-settled
returns-clause-settled g c =
    let reply = c.reply_told-reply in
    let P : ℕ → Type 0 = λ i. IsSettledAt reply.new.scanner i c.args.number c.args.value.now reply.result in
    subst P (c.update-told.ensures.updated.same_seat.low ∙ c.in_ok-writer.ensures)
    (reply.ensures.settled _ _ c.update-told.ensures.tellable)

pub returns-clause-limits : goal.returns-clause-limits
returns-clause-limits g c = c.reply_told-reply.ensures.limits _ _ c.update-told.ensures.tellable
