use Rattle.std.proofs.Common.{◌≡◌, length, map, take}
use Rattle.snap_scan.specs.{Sets.named_below, Values.pair_of}
use Rattle.snap_service.specs.Answers.{segment_of, named_pair}
use Rattle.snap_service.proofs.reads.name_values.Given as goal

abbrev pub invariant-loop-segment : goal.invariant-loop-segment
invariant-loop-segment l = record {
  set : l.set ≡ l.fn.set;
  names : map segment_of l.list.items ≡ named_below l.fn.set.bits l.segment;
  values : map named_pair l.list.items ≡ take (length l.list.items) (map pair_of l.fn.values.items);
}
