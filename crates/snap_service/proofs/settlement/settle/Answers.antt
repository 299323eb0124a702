use Rattle.std.proofs.Common.{ℕ, subst, ◌∙◌}
use Rattle.snap_service.{specs.Settled.IsSettledAt, proofs.Meetings.still_together, proofs.Meetings.still_seated}
use Rattle.snap_service.proofs.Told.{tellable}
use Rattle.snap_service.specs.Settled.{IsTellable}
use Rattle.snap_service.proofs.settlement.settle.Goals as goal
use Rattle.snap_service.proofs.settlement.settle.Goals.{After-reply_told}

told_fits : (g : _) (c : After-reply_told g)
    → IsTellable c.update-told.new.self c.args.number c.args.value.now c.update-told.result
told_fits g c = let u = c.update-told.ensures in
    tellable _ _ _ _ u.low g.D.Disk _ u.updated u.shown c.requires.size

pub reply_told-requires : goal.reply_told-requires
reply_told-requires g c = record {
  together = still_together c.args.scanner.now c.args.writer.now c.update-told.new.self c.requires.together
      c.update-told.ensures.updated.same_seat;
}

pub returns-clause-told : goal.returns-clause-told
returns-clause-told g c = record {
  told = c.update-told.result;
  between = c.update-told.new.self;
  updated = c.update-told.ensures.updated;
  met = c.reply_told.ensures.writer;
  said = c.reply_told.ensures.told;
}

pub returns-clause-settled : goal.returns-clause-settled
returns-clause-settled g c =
    let P : ℕ → Type 0 = λ i. IsSettledAt c.reply_told.new.scanner i c.args.number c.args.value.now c.reply_told.result
    in
    subst P (c.update-told.ensures.updated.same_seat.low ∙ c.requires.own)
    (c.reply_told.ensures.settled _ _ (told_fits g c))

pub returns-clause-limits : goal.returns-clause-limits
returns-clause-limits g c = c.reply_told.ensures.limits c.args.number c.args.value.now (told_fits g c)

pub returns-clause-seat : goal.returns-clause-seat
returns-clause-seat g c = still_seated c.args.writer.now c.update-told.new.self c.reply_told.new.writer
    c.update-told.ensures.updated.same_seat c.reply_told.ensures.writer
