use Rattle.std.proofs.Common.{◌≡◌, ◌≤◌, length, drop}
use Rattle.std.specs.Vec.Iter.{into_iter_items, into_iter_len}
use Rattle.snap_serve.proofs.stores.open_desks.Given as goal

abbrev pub invariant-scanners : goal.invariant-scanners
invariant-scanners g l = record {
  rest : into_iter_items l.scanner-iterator ≡ drop (length l.yielded) l.fn.scanners.items;
  long : into_iter_len l.scanner-iterator ≡ length (into_iter_items l.scanner-iterator);
  within : length l.yielded ≤ length l.fn.scanners.items;
  desks : length l.desks.items ≡ length l.yielded;
}
