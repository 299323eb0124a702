use Rattle.std.proofs.Common.{◌≡◌, ℕ, ◌≤◌, ◌++◌, length, map, slice_get, Some}
use Rattle.std.specs.{Prelude.vec_capacity, Vec.Iter.into_iter_items, Vec.Iter.into_iter_len}
use Rattle.snap_restart.specs.Closed.{Rests}
use Rattle.snap_restart.proofs.shutdown.release_all.Given as goal

abbrev pub invariant-writers : goal.invariant-writers
invariant-writers g l = record {
  whole : l.yielded ++ into_iter_items l.writer-iterator ≡ l.fn.writers.items;
  long : into_iter_len l.writer-iterator ≡ length (into_iter_items l.writer-iterator);
  devices : l.devices.items ≡ map (λ w. w.segment.device) l.yielded;
  room : length l.fn.writers.items ≤ vec_capacity l.devices;
  rests : (i : ℕ) (w : _) → slice_get l.yielded i ≡ Some w → Rests g.D.Disk w;
}
