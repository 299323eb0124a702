use Rattle.std.proofs.Common.{◌≡◌, ℕ, length, Some, slice_get}
use Rattle.snap_scan.specs.declared.segment_value.SegmentValue.{SegmentValue}
use Rattle.snap_memory.proofs.scan_cache.empty_cache.Given as goal

abbrev pub invariant-loop-i : goal.invariant-loop-i
invariant-loop-i l = record {
  long : length l.cache.items ≡ l.i;
  none : (i : ℕ) (x : SegmentValue) → slice_get l.cache.items i ≡ Some (Some x) → ⊥;
}
