use Rattle.std.proofs.Common.{◌≡◌, ◌-◌, length}
use Rattle.snap_register.specs.{Setup.IsFirst, Parts.AreReaders}
use Rattle.snap_register.proofs.tables.seat_readers.Given as goal

abbrev pub invariant-loop-k : goal.invariant-loop-k
invariant-loop-k l = record {
  table : l.first_seat.table_id ≡ l.initial.first_seat.table_id;
  plan : l.first_seat.me.0.plan ≡ l.initial.first_seat.me.0.plan;
  first : IsFirst l.first_seat.table_id.words (l.sizes.scanners - l.k) l.first_seat.me;
  count : length l.readers.items ≡ l.k;
  each : AreReaders l.initial.first_seat.table_id l.initial.first_seat.me.0.plan l.readers.items;
}
