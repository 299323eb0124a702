use Rattle.std.proofs.Common.{rules, ◌≡◌, ◌+◌, ◌/◌, ◌^◌, ap, ◌∙◌, sym, arith, get_or}
use Rattle.atomic_table.specs.Seated.{TableId}
use Rattle.snap_register.specs.{declared.plan.SeatView.SeatView, Steps.view_of}
use Rattle.snap_register.proofs.{Keeps.revisits, Places.word_inside, Later.seated_revisited, Later.sized_still}
use Rattle.snap_register.proofs.access.Access.revisit.Goals as goal

pub load-found-requires : goal.load-found-requires
load-found-requires c =
    let me = c.args.self.now in
    let own : me.seat.table_id ≡ c.deref.result.now.shared.table_id = search rules in
    let seated = me.seated in
    let lj = c.requires.0 in (
      own,
      rw (← own, seated.words_are) (word_inside (view_of me).plan c.args.j lj),
      revisits (Unit {0}) _ _ _ me.seat.me c.args.j seated.here lj
          (omega (arith, seated.wide_records)) (omega (arith, seated.left_is, c.requires.1)),
    )

pub invariant_of-self : goal.invariant_of-self
invariant_of-self c =
    let me = c.args.self.now in
    let step = c.load-found.ensures in
    let pin : get_or (view_of me).pins c.args.j 0 ≡ c.load-found.result / 2 ^ 56 + 1 =
    sym (me.seated.pins_are c.args.j c.requires.0) ∙ search rules in
    let looks = step.2.0 pin in
    record {
      own = step.0 ∙ me.own;
      sized = sized_still me (ap (λ (v : SeatView). v.plan) looks.2);
      seated = seated_revisited me.seated c.args.j me.sized c.requires.0
          (ap (λ (t : TableId). t.words) step.0) (let some = c.requires.1 in omega arith)
          looks.0.later looks.0.legal (λ t. (looks.2 t, looks.1 t));
    }

pub returns-then-is_pinned-clause-learns : goal.returns-then-is_pinned-clause-learns
returns-then-is_pinned-clause-learns c = λ _.
    let pin : get_or (view_of c.args.self.now).pins c.args.j 0 ≡ c.load-found.result / 2 ^ 56 + 1 =
    sym (c.args.self.now.seated.pins_are c.args.j c.requires.0) ∙ search rules in
    (c.load-found.ensures.2.0 pin).0

pub invariant_of-self-else-is_pinned : goal.invariant_of-self-else-is_pinned
invariant_of-self-else-is_pinned c =
    let me = c.args.self.now in
    let step = c.load-found.ensures in
    let same : c.load-found.new.seat.me ≡ me.seat.me = step.2.1 (λ pin. search rules) in
    record { own = step.0 ∙ me.own; sized = rw same me.sized; seated = rw (step.0, same) me.seated }
