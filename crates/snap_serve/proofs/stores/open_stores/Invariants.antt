use Rattle.std.proofs.Common.{◌≡◌, ◌≤◌, length, drop}
use Rattle.snap_serve.specs.Handles.{AreHandles}
use Rattle.std.specs.Vec.Iter.{into_iter_items, into_iter_len}
use Rattle.snap_serve.proofs.stores.open_stores.Given as goal

abbrev pub invariant-writers : goal.invariant-writers
invariant-writers g l = record {
  rest : into_iter_items l.writer-iterator ≡ drop (length l.yielded) l.fn.writers.items;
  long : into_iter_len l.writer-iterator ≡ length (into_iter_items l.writer-iterator);
  within : length l.yielded ≤ length l.fn.writers.items;
  stores : length l.stores.items ≡ length l.yielded;
  handles : AreHandles (length l.yielded) l.handles.items;
}
