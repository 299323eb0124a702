use Rattle.std.proofs.Common.{rules, ◌≡◌, ap, ◌∙◌, get_or}
use Rattle.atomic_table.specs.Seated.{TableId}
use Rattle.snap_register.{specs.declared.plan.BufferPool.BufferPool, proofs.Later.seated_pool, proofs.Later.sized_still}
use Rattle.snap_register.proofs.Pools.{checks}
use Rattle.snap_register.specs.{Rule.next_other, Registers.Mine, Setup.IsSeated, Steps.view_of, Steps.pool_of}
use mathlib.Core.Logic.{dite}
use native.Mathlib.Decide.{ℕ_discrete}
use Rattle.snap_register.proofs.access.Access.check.Goals as goal

pub load-found-requires : goal.load-found-requires
load-found-requires c =
    let me = c.args.self.now in
    let own : me.seat.table_id ≡ c.deref.result.now.shared.table_id = search rules in (
      own,
      rw (← own) c.given-at.ensures.1,
      checks (Unit {0}) _ _ _ me.seat.me c.args.i _ me.seated.here c.requires.own.0 c.requires.own.1 c.requires.buffer.2
          (rw (← c.requires.buffer.0) c.requires.buffer.1) (rw (← c.requires.buffer.0) c.given-at.ensures.0),
    )

pub invariant_of-self : goal.invariant_of-self
invariant_of-self c =
    let me = c.args.self.now in
    let step = c.load-found.ensures in
    let after = c.load-found.new.seat in
    let mine : (d : BufferPool) → after.me ≡ (record (view_of me) { pool = d }, me.seat.me.1)
    → (after.me.0.plan ≡ (view_of me).plan)
    × IsSeated {S = Unit {0}} after.table_id.words me.pins me.left after.me = λ d is. (
      ap (λ (m : Mine). m.0.plan) is,
      seated_pool me.seated d (ap (λ (t : TableId). t.words) step.0) is,
    ) in
    let both = dite (ℕ_discrete c.load-found.result (get_or (pool_of me).counted (next_other (pool_of me)) 0)) (λ same.
    mine _ (step.2.0 same)) (λ differs. mine _ (step.2.1 differs).0) in
    record { own = step.0 ∙ me.own; sized = sized_still me both.0; seated = both.1 }
