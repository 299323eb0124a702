use Rattle.std.proofs.Common.{◌≡◌, ◌≤◌, take, length}
use Rattle.snap_scan.specs.Sets.{named_below}
use Rattle.snap_scan.proofs.scan.Segments.of.Given as goal

abbrev pub invariant-loop-segment : goal.invariant-loop-segment
invariant-loop-segment l = record {
  list : take l.count l.list ≡ named_below l.set.bits l.segment;
  set : l.set ≡ l.fn.set;
  few : l.count ≤ l.segment;
  wide : length l.list ≡ 16;
  most : l.segment ≤ 16;
}
