use Rattle.std.proofs.Common.{◌≡◌, ◌≤◌, length, drop}
use Rattle.std.specs.{Prelude.vec_capacity, Vec.Iter.into_iter_items, Vec.Iter.into_iter_len}
use Rattle.snap_service.proofs.shared.Shared.new.Given as goal

abbrev pub invariant-writers : goal.invariant-writers
invariant-writers g l = record {
  rest : into_iter_items l.writer-iterator ≡ drop (length l.locks.items) l.fn.writers.items;
  long : into_iter_len l.writer-iterator ≡ length (into_iter_items l.writer-iterator);
  within : length l.locks.items ≤ length l.fn.writers.items;
  room : length l.fn.writers.items ≤ vec_capacity l.locks;
}
