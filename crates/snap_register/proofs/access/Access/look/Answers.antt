use Rattle.std.proofs.Common.{rules, ℕ, List, ap, ◌∙◌, arith, get_or-set_other, set}
use Rattle.snap_register.proofs.Updates.{number_is, grows_is, below_is}
use Rattle.snap_register.proofs.access.Access.look.Goals.{After-read, then-not-revisit, else-not-revisit}
use Rattle.snap_register.specs.{Held.HasLookedFrom, Held.IsPinned, Registers.Mine, declared.plan.SeatView.SeatView}
use Rattle.snap_register.specs.{History.number, Rule.Learns, Steps.view_of}
use Rattle.snap_register.proofs.access.Access.look.Goals as goal

-- What both ways leave: the seat pins the current buffer.
record HasPinned (a b : SeatView) (j : ℕ) : Type 0 where
  pub learns : Learns a b
  pub looks : IsPinned a b j
  pub view : HasLookedFrom a b

pinned : (c : After-read) → HasPinned (view_of c.args.self.now) (view_of c.if-not-revisit.self) c.args.j
pinned c =
    elim c.if-not-revisit.branch [
      | then-not-revisit w ↦ (
          let moved = (c.revisit.ensures.moved w.if-not-revisit.true).2 in
          let given = w.give_back.ensures.3
          ∙ ap (λ (m : Mine). (record m.0 { pins = set m.0.pins c.args.j 0 }, m.1)) moved in
          let l = rw given at w.pin.ensures.learns in
          let looks = w.pin.ensures.looks in
          let view : HasLookedFrom (view_of c.args.self.now) (view_of w.pin.new.self) = search rules in
          rw w.self-is (record {
            learns = record {
              later = l.later;
              received = l.received;
              own = l.own;
              given = l.given;
              legal = l.legal;
              below = l.below;
            };
            looks = record {
              pinned = looks.pinned;
              last = looks.last;
              others = λ i other. let o = rw given at looks.others i other in
                  (o.0 ∙ get_or-set_other c.args.self.now.seat.me.0.pins c.args.j i 0 0 other, o.1);
            };
            view = view;
          }))
      | else-not-revisit w ↦ rw w.self-is (record {
        learns = c.revisit.ensures.learns (search rules);
        looks = c.revisit.ensures.looks (search rules);
        view = c.revisit.ensures.view (search rules);
      })
    ]

-- a load changes nothing
looked_at : (c : After-read) → HasPinned (view_of c.args.self.now) (view_of c.read.new.self) c.args.j
looked_at c = rw c.read.ensures.same.2 (pinned c)

pub returns-clause-seen : goal.returns-clause-seen
returns-clause-seen c =
    let r = (goal.at.returns-clause-seen c).After-read in
    let a = c.args.self.now in
    let b = c.read.new.self in
    let p = looked_at r in
    let view = p.view in
    let l = p.learns in
    grows_is a.seat.table_id b.seat.table_id (view_of a) (view_of b) (search rules)
    (ap (λ (u : SeatView). u.plan) view) (ap (λ (u : SeatView). u.low) view)
    (ap (λ (u : SeatView). u.high) view) l.later
    (λ i has. l.own i has (omega (arith, has.1, a.seated.seen_end_is))) (ap (λ (u : SeatView). u.phase) view)

pub returns-clause-below : goal.returns-clause-below
returns-clause-below c =
    let r = (goal.at.returns-clause-below c).After-read in
    let b = c.read.new.self in
    let p = looked_at r in
    below_is b.seat.table_id (view_of b) (rw (ap (λ (u : SeatView). u.plan) p.view) p.learns.below)

pub returns-clause-number : goal.returns-clause-number
returns-clause-number c =
    let now = c.if-not-revisit.self in
    let w : SeatView = view_of c.read.new.self in
    let p = pinned (goal.at.returns-clause-number c).After-read in
    let r = now.seated.readable c.args.j (rw (ap (λ (u : SeatView). u.plan) p.view) c.requires.0) in
    grind (
      arith,
      c.read.ensures.word,
      ap (λ (x : ℕ × List ℕ). x.0) r.own.is,
      p.looks.last,
      ap (λ (m : Mine). number m.0.plan m.0.seen c.args.j) c.read.ensures.same.2,
      number_is w.plan w.seen c.args.j,
    )

pub returns-clause-looked : goal.returns-clause-looked
returns-clause-looked c =
    let p = looked_at (goal.at.returns-clause-looked c).After-read in
    let looks = p.looks in
    let view = p.view in
    search rules

pub returns-clause-learns : goal.returns-clause-learns
returns-clause-learns c = (looked_at (goal.at.returns-clause-learns c).After-read).learns
