use Rattle.std.proofs.Common.{rules, ◌≡◌, ℕ, ◌+◌, ◌<◌, ap, sym, ◌∙◌, arith, refl}
use Rattle.std.proofs.lemmas.List.{get_or-map}
use Rattle.atomic_table.specs.Seated.{TableId}
use Rattle.snap_register.proofs.Opens.{enough, bare, first_after, writers_more, new_seat}
use Rattle.snap_register.specs.declared.plan.{Opening.Opening, Plan.Plan}
use Rattle.snap_register.specs.{Parts.IsNewSeat, Rule.segments, Rule.size}
use Rattle.snap_register.proofs.{Joins.gives, Later.some_words}
use Rattle.snap_register.proofs.tables.seat_writers.Goals as goal

pub split_seat-seat-requires : goal.split_seat-seat-requires
split_seat-seat-requires c =
    let inv = c.loop-i.invariant in
    let own : c.loop-i.first_seat.table_id ≡ c.deref.result.now.shared.table_id = search rules in
    let e = c.requires.sized.0.segments_are in
    let more = enough (Unit {0}) _ _ _ inv.first (omega arith) in (
      own,
      rw (← own) (some_words c.requires.sized.0 (inv.first.words_are ∙ ap size inv.plan)),
      gives (Unit {0}) _ _ _ inv.first.seen_end_is inv.first.pool_end_is (omega (arith, inv.low, inv.high))
          (bare (Unit {0}) _ _ _ inv.first) more.0 more.1,
    )

pub loop-i-preserved : goal.loop-i-preserved
loop-i-preserved c =
    let inv = c.loop-i.invariant in
    let split = c.split_seat-seat.ensures in
    let given = c.in_ok-access_of.ensures in
    let z : TableId = c.args.first_seat.now.table_id in
    let p : Plan = c.args.first_seat.now.me.0.plan in
    let me = given.1 ∙ split.4 in
    let words = ap (λ (t : TableId). t.words) split.0 in
    let first = inv.first in
    let new : IsNewSeat z p c.loop-i.i (c.loop-i.i + 1) c.of.result =
    new_seat (Unit {0}) z p _ _ c.of.result _ _ _ me c.of.ensures (given.0
    ∙ (split.3 ∙ inv.table)) inv.plan first.seen_is inv.low (ap (λ (n : ℕ). n + 1) inv.low) refl first.phase_is in
    let more = writers_more z p c.loop-i.writers.items c.of.result inv.each (rw inv.count new) in
    let e = c.requires.sized.0.segments_are in
    record {
      table = search rules;
      plan = search rules;
      first = first_after (Unit {0}) _ _ _ _ _ c.loop-i.first_seat.me _ first (omega arith) words split.2;
      low = search rules;
      high = search rules;
      count = search rules;
      each = rw c.in_ok-push.ensures.items more;
    }

pub of-requires : goal.of-requires
of-requires c =
    let inv = c.loop-i.invariant in
    let i : ℕ = c.loop-i.i in
    let p : Plan = c.args.first_seat.now.me.0.plan in
    let all = c.requires.numbers.0 in
    let next = ap (λ (n : ℕ). n + 1) inv.low in
    let own : i < segments p = omega (arith, c.requires.sized.0.segments_are) in
    let value = get_or-map (λ (x : Opening). x.number) c.args.values.now.items i c.index.result.now 0 (omega arith) in
    let number = ap (λ (x : Opening). x.number) c.index.ensures ∙ (sym value ∙ c.requires.numbers.1 i own) in
    rw (c.in_ok-access_of.ensures.1 ∙ c.split_seat-seat.ensures.4) (record {
      role = ((inv.low, next, next, next), rw inv.plan own);
      number = (rw inv.plan number, inv.first.seen_is);
      pool = inv.first.pool_is;
    })
