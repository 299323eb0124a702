use Rattle.std.proofs.Common.{◌≡◌, ◌≤◌, ◌++◌, length}
use Rattle.std.specs.{Prelude.vec_capacity, Vec.Iter.into_iter_items, Vec.Iter.into_iter_len}
use Rattle.snap_restart.proofs.store.place_scanners.Given as goal

abbrev pub invariant-scanners : goal.invariant-scanners
invariant-scanners l = record {
  whole : l.scanners.items ++ into_iter_items l.seat-iterator ≡ l.fn.seats.items;
  long : into_iter_len l.seat-iterator ≡ length (into_iter_items l.seat-iterator);
  room : length l.fn.seats.items ≤ vec_capacity l.scanners;
}
