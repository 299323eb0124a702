use Rattle.std.proofs.Common.{◌≡◌, ◌≤◌, length, drop}
use Rattle.std.specs.{Prelude.vec_capacity, Vec.Iter.into_iter_items, Vec.Iter.into_iter_len}
use Rattle.snap_service.proofs.metrics.timed_disk.time_all.Given as goal

abbrev pub invariant-devices : goal.invariant-devices
invariant-devices g l = record {
  rest : into_iter_items l.device-iterator ≡ drop (length l.yielded) l.fn.devices.items;
  long : into_iter_len l.device-iterator ≡ length (into_iter_items l.device-iterator);
  within : length l.yielded ≤ length l.fn.devices.items;
  timed : l.timed.items ≡ l.yielded;
  room : length l.fn.devices.items ≤ vec_capacity l.timed;
}
