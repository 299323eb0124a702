use Rattle.std.proofs.Common.{rules, ◌∙◌, refl, subst}
use Rattle.snap_writer.{proofs.Paired.paired_grown, specs.Writer.WriterState, specs.Life.IsShown, proofs.Lives.met}
use Rattle.snap_register.specs.Seat.{Meets}
use Rattle.snap_writer.proofs.writer.Writer.meet.Goals as goal

pub invariant_of-self : goal.invariant_of-self
invariant_of-self g c = let s = c.self.inside.segment in
    paired_grown s s c.self.inside.seat c.meet.new.writer _ c.self.invariant
    c.meet.ensures.writer.grows refl refl (c.meet.ensures.writer.grows.phase ∙ c.self.invariant.phase_is)

pub returns-clause-shown : goal.returns-clause-shown
returns-clause-shown g c =
    let was = c.self.invariant in
    let is = invariant_of-self g c in
    (subst (λ (w : WriterState _). IsShown w) c.self.view_is (was.number_is, was.value_is), (is.number_is, is.value_is))

pub returns-clause-lived : goal.returns-clause-lived
returns-clause-lived g c = met g.D.Disk c.args.self.now _ (search rules)
    (subst (λ (w : WriterState _). Meets w.seat c.meet.new.writer) c.self.view_is c.meet.ensures.writer)
