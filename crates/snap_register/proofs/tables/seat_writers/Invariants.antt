use Rattle.std.proofs.Common.{◌≡◌, ◌-◌, length}
use Rattle.snap_register.specs.{Rule.seats, Setup.IsFirst, Parts.AreWriters}
use Rattle.snap_register.proofs.tables.seat_writers.Given as goal

abbrev pub invariant-loop-i : goal.invariant-loop-i
invariant-loop-i l = record {
  table : l.first_seat.table_id ≡ l.initial.first_seat.table_id;
  plan : l.first_seat.me.0.plan ≡ l.initial.first_seat.me.0.plan;
  first : IsFirst l.first_seat.table_id.words (seats l.initial.first_seat.me.0.plan - l.i) l.first_seat.me;
  low : l.first_seat.me.0.low ≡ l.i;
  high : l.first_seat.me.0.high ≡ l.sizes.segments;
  count : length l.writers.items ≡ l.i;
  each : AreWriters l.initial.first_seat.table_id l.initial.first_seat.me.0.plan l.writers.items;
}
