use Rattle.std.proofs.Common.{rules, ◌≡◌, ap, ◌∙◌, arith, refl}
use Rattle.atomic_table.specs.Seated.{TableId}
use Rattle.snap_register.proofs.Opens.{enough, bare, first_after, readers_more, new_seat}
use Rattle.snap_register.specs.{declared.plan.Plan.Plan, Rule.size, Parts.IsNewSeat}
use Rattle.snap_register.proofs.{Joins.seats_reader, Later.some_words}
use Rattle.snap_register.proofs.tables.seat_readers.Goals as goal

pub split_seat-seat-requires : goal.split_seat-seat-requires
split_seat-seat-requires c =
    let inv = c.loop-k.invariant in
    let own : c.loop-k.first_seat.table_id ≡ c.deref.result.now.shared.table_id = search rules in
    let more = enough (Unit {0}) _ _ _ inv.first (omega arith) in (
      own,
      rw (← own) (some_words c.requires.sized.0 (inv.first.words_are ∙ ap size inv.plan)),
      seats_reader (Unit {0}) _ _ _ (bare (Unit {0}) _ _ _ inv.first) more.0 more.1,
    )

pub loop-k-preserved : goal.loop-k-preserved
loop-k-preserved c =
    let inv = c.loop-k.invariant in
    let split = c.split_seat-seat.ensures in
    let given = c.in_ok-access_of.ensures in
    let z : TableId = c.args.first_seat.now.table_id in
    let p : Plan = c.args.first_seat.now.me.0.plan in
    let me = given.1 ∙ split.4 in
    let words = ap (λ (t : TableId). t.words) split.0 in
    let first = inv.first in
    let new : IsNewSeat z p 0 0 c.of.result =
    new_seat (Unit {0}) z p 0 0 c.of.result _ _ _ me c.of.ensures (given.0
    ∙ (split.3 ∙ inv.table)) inv.plan first.seen_is refl refl refl first.phase_is in
    record {
      table = search rules;
      plan = search rules;
      first = first_after (Unit {0}) _ _ _ _ _ c.loop-k.first_seat.me _ first (omega arith) words split.2;
      count = search rules;
      each = rw c.in_ok-push.ensures.items (readers_more z p c.loop-k.readers.items c.of.result inv.each new);
    }
