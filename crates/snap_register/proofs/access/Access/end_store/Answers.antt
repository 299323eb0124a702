use Rattle.std.proofs.Common.{rules, ◌≡◌, ap, ◌∙◌}
use Rattle.atomic_table.specs.Seated.{TableId}
use Rattle.snap_register.specs.declared.{plan.SeatView.SeatView, plan.UpdatePhase.TheVariants.Stored}
use Rattle.snap_register.specs.Steps.{view_of}
use Rattle.snap_register.proofs.{Keeps.notes, Places.word_inside, Later.seated_phase, Later.sized_still}
use Rattle.snap_register.proofs.access.Access.end_store.Goals as goal

pub load-requires : goal.load-requires
load-requires c =
    let me = c.args.self.now in
    let own : me.seat.table_id ≡ c.deref.result.now.shared.table_id = search rules in (
      own,
      rw (← own, me.seated.words_are) (word_inside (view_of me).plan c.args.i c.requires),
      notes (Unit {0}) _ _ _ me.seat.me c.args.i Stored me.seated.here,
    )

pub invariant_of-self : goal.invariant_of-self
invariant_of-self c =
    let me = c.args.self.now in
    let step = c.load.ensures in
    record {
      own = step.0 ∙ me.own;
      sized = sized_still me (ap (λ (v : SeatView). v.plan) (λ t. (step.2 t).0));
      seated = seated_phase me.seated Stored (ap (λ (t : TableId). t.words) step.0) step.2;
    }
