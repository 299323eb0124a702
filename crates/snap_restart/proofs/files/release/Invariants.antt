use Rattle.std.proofs.Common.{◌≡◌, ◌≤◌, ◌++◌, length, map}
use Rattle.std.specs.{Prelude.vec_capacity, Vec.Iter.into_iter_items, Vec.Iter.into_iter_len}
use Rattle.snap_restart.proofs.files.release.Given as goal

abbrev pub invariant-segments : goal.invariant-segments
invariant-segments g l = record {
  whole : l.yielded ++ into_iter_items l.segment-iterator ≡ l.fn.segments.items;
  long : into_iter_len l.segment-iterator ≡ length (into_iter_items l.segment-iterator);
  items : l.devices.items ≡ l.fn.devices.items ++ map (λ s. s.device) l.yielded;
  room : vec_capacity l.fn.devices ≤ vec_capacity l.devices;
}
