use Rattle.std.proofs.{Common.◌≡◌, Common.map}
use Rattle.snap_scan.specs.{Sets.named_below}
use Rattle.snap_world.specs.{Answers.pair_of, inside.Gathers.entry_in}
use Rattle.snap_world.proofs.collector.entries_of.Given as goal

abbrev pub invariant-loop-segment : goal.invariant-loop-segment
invariant-loop-segment l = record {
  set : l.set ≡ l.fn.set;
  entries : map pair_of l.part.items ≡ map (entry_in l.values.items) (named_below l.fn.set.bits l.segment);
}
