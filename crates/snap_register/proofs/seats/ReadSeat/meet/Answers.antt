use Rattle.std.proofs.Common.{◌≡◌, ap, sym, ◌∙◌, arith}
use Rattle.snap_register.{specs.declared.plan.SeatView.SeatView, proofs.Updates.meets_is, proofs.Updates.below_is}
use Rattle.snap_register.specs.{Registers.Mine, Seat.Known, Steps.view_of}
use Rattle.snap_register.proofs.seats.ReadSeat.meet.Goals as goal

pub returns-clause-scanner : goal.returns-clause-scanner
returns-clause-scanner c =
    let a = c.self.inside.access in
    let b = c.meet.new.self in
    let l = c.meet.ensures in
    let high = c.self.invariant.1 in
    rw (← c.self.view_is) (meets_is a.seat.table_id
    b.seat.table_id (view_of a) (view_of b) (view_of c.meet.new.other).seen l.me.0
    (ap (λ (m : Mine). m.0) l.me.1) l.received (λ i has. let x = has.1 in absurd (omega arith)))

pub returns-clause-writer : goal.returns-clause-writer
returns-clause-writer c =
    let a = c.writer.inside.access in
    let b = c.meet.new.other in
    let l = c.meet.ensures in
    rw (← c.writer.view_is) (meets_is a.seat.table_id b.seat.table_id (view_of a) (view_of b) (view_of b).seen l.other.0
    (ap (λ (m : Mine). m.0) l.other.1) l.seen l.own)

pub returns-clause-below : goal.returns-clause-below
returns-clause-below c =
    let l = c.meet.ensures in
    let w : SeatView = view_of c.meet.new.self in
    let u : SeatView = view_of c.meet.new.other in
    let mine = l.me.1 in
    let plans : (view_of c.writer.inside.access).plan ≡ (view_of c.self.inside.access).plan =
    ap (λ (a : Known). a.plan) c.writer.view_is
    ∙ (c.requires.together.plan ∙ ap (λ (a : Known). a.plan) (sym c.self.view_is)) in
    let plan : u.plan ≡ w.plan = ap (λ (m : Mine). m.0.plan) l.other.1
    ∙ (plans ∙ sym (ap (λ (m : Mine). m.0.plan) mine)) in
    let seen : u.seen ≡ w.seen = sym (ap (λ (m : Mine). m.0.seen) mine) in
    below_is c.meet.new.self.seat.table_id w (rw (plan, seen) at l.below)
