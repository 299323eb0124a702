use Rattle.std.proofs.Common.{◌≡◌, ◌≤◌, ◌++◌, length, map}
use Rattle.std.specs.{Prelude.vec_capacity, Vec.Iter.into_iter_items, Vec.Iter.into_iter_len}
use Rattle.snap_restart.proofs.store.place_writers.Given as goal

abbrev pub invariant-writers : goal.invariant-writers
invariant-writers g l = record {
  segments : map (λ w. w.segment) l.writers.items ++ into_iter_items l.segment-iterator ≡ l.fn.segments.items;
  segments_long : into_iter_len l.segment-iterator ≡ length (into_iter_items l.segment-iterator);
  seats : map (λ w. w.seat) l.writers.items ++ into_iter_items l.rest ≡ l.fn.seats.items;
  seats_long : into_iter_len l.rest ≡ length (into_iter_items l.rest);
  room : length l.fn.segments.items ≤ vec_capacity l.writers;
}
