use Rattle.std.proofs.Common.{rules, ◌≡◌, ap, ◌∙◌, arith}
use Rattle.atomic_table.specs.Seated.{TableId}
use Rattle.snap_register.specs.{declared.plan.SeatView.SeatView, Steps.view_of}
use Rattle.snap_register.proofs.{Keeps.pins, Places.word_inside, Later.seated_pinned, Later.sized_still}
use Rattle.snap_register.proofs.access.Access.pin.Goals as goal

pub fetch_add-found-requires : goal.fetch_add-found-requires
fetch_add-found-requires c =
    let me = c.args.self.now in
    let own : me.seat.table_id ≡ c.deref.result.now.shared.table_id = search rules in
    let seated = me.seated in
    let lj = c.requires.0 in (
      own,
      rw (← own, seated.words_are) (word_inside (view_of me).plan c.args.j lj),
      pins (Unit {0}) _ _ _ me.seat.me c.args.j seated.here lj c.requires.1
          (omega (arith, seated.wide_pins)) (omega (arith, seated.wide_records))
          (omega (arith, seated.left_is, c.requires.2)) (omega (arith, seated.pin_quota_is)),
    )

pub invariant_of-self : goal.invariant_of-self
invariant_of-self c =
    let me = c.args.self.now in
    let step = c.fetch_add-found.ensures in
    record {
      own = step.0 ∙ me.own;
      sized = sized_still me (ap (λ (v : SeatView). v.plan) step.2.3);
      seated = seated_pinned me.seated c.args.j _ me.sized c.requires.0 (search rules) step.2.2
          (ap (λ (t : TableId). t.words) step.0) (let some = c.requires.2 in omega arith)
          step.2.0.later step.2.0.legal (λ t. (step.2.3 t, step.2.1 t));
    }
