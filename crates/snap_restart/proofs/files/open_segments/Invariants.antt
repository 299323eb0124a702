use Rattle.std.proofs.Common.{◌≡◌, ◌+◌, ◌-◌, ◌^◌, ◌<◌, ◌≤◌, [], length, take, drop, All}
use Rattle.std.specs.{Prelude.vec_capacity, Vec.Iter.into_iter_items, Vec.Iter.into_iter_len}
use Rattle.snap_history.specs.{declared.limits.TheConstants.MAX_COUNT, Pairs.Pairs}
use Rattle.snap_restart.specs.Opened.{IsOpened}
use Rattle.snap_restart.proofs.files.open_segments.Given as goal

abbrev pub invariant-opening : goal.invariant-opening
invariant-opening g l = record {
  rest : into_iter_items l.rest ≡ drop (length l.segments.items) l.fn.devices.items;
  long : into_iter_len l.rest ≡ length (into_iter_items l.rest);
  opened : Pairs (IsOpened g.D.Disk (length l.fn.devices.items)) (take (length l.segments.items)
      l.fn.devices.items) l.segments.items;
  left : length l.segments.items + into_iter_len l.rest ≡ length l.fn.devices.items;
  headroom : All (λ d. g.D.Disk.failure_count d < 2 ^ 64 - 1) (into_iter_items l.rest);
  count : l.count ≡ length l.fn.devices.items;
  room : length l.fn.devices.items ≤ vec_capacity l.segments;
  emptied : l.emptied.items ≡ [];
  space : MAX_COUNT ≤ vec_capacity l.emptied;
}

abbrev pub decreases-opening : goal.decreases-opening
decreases-opening g l = into_iter_len l.rest
