use Rattle.std.proofs.Common.{rules, ◌*◌, ◌^◌, ◌≡◌, ℕ, refl, ap, ◌∙◌}
use Rattle.atomic_table.specs.Seated.{TableId}
use Rattle.snap_register.{specs.Steps.view_of, proofs.Pools.publishes, proofs.Places.word_inside}
use Rattle.snap_register.proofs.Later.{seated_phase, seated_shown, publishes_later, sized_still}
use Rattle.snap_register.specs.declared.plan.{UpdatePhase.TheVariants.Shown, SeatView.SeatView}
use Rattle.snap_register.proofs.access.Access.swap.Goals as goal

pub swap-found-requires : goal.swap-found-requires
swap-found-requires c =
    let me = c.args.self.now in
    let own : me.seat.table_id ≡ c.deref.result.now.shared.table_id = search rules in (
      own,
      rw (← own, me.seated.words_are) (word_inside (view_of me).plan c.args.i c.requires.own.1),
      publishes (Unit {0}) _ _ _ me.seat.me c.args.i _ me.seated.here c.requires.own.0
          c.requires.own.1 (rw (← c.requires.buffer.0) c.requires.buffer.1) c.requires.next
          c.requires.view (ap (λ (z : ℕ). z * 2 ^ 56) c.requires.buffer.0),
    )

pub invariant_of-self : goal.invariant_of-self
invariant_of-self c =
    let me = c.args.self.now in
    let step = c.swap-found.ensures in
    let shown = step.2.0 in
    record {
      own = step.0 ∙ me.own;
      sized = sized_still me (ap (λ (v : SeatView). v.plan) shown.same);
      seated = seated_shown (seated_phase me.seated Shown refl refl) _ _ me.sized (ap (λ (t : TableId). t.words) step.0)
          (λ t. (shown.same t, step.2.2 t))
          (publishes_later (view_of me) c.swap-found.new.seat.me.0 c.args.i _ shown) shown.legal;
    }
