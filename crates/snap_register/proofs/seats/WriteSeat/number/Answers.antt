use Rattle.std.proofs.Common.{sym, ap, ◌∙◌, ℕ}
use Rattle.snap_register.specs.Seat.{Known, number_in, own_of}
use Rattle.snap_register.{specs.History.number, specs.Steps.view_of, proofs.Updates.number_is}
use Rattle.snap_register.proofs.seats.WriteSeat.number.Goals as goal

pub returns : goal.returns
returns c =
    let s = c.self.inside in
    let v = view_of s.access in
    let own = s.segment in
    record {
      number = c.self.invariant.number_is ∙ (sym (ap (λ (i : ℕ). number v.plan v.seen i) c.self.invariant.role.0)
          ∙ (sym (number_is v.plan v.seen v.low) ∙ ap (λ (a : Known). number_in a a.seen (own_of a)) c.self.view_is));
    }
