use Rattle.std.proofs.Common.{◌≡◌, ◌-◌, length}
use Rattle.snap_scan.specs.{Looks.most_looks, Sets.size}
use Rattle.snap_memory.proofs.Collects.{Gathers}
use Rattle.snap_memory.proofs.looks.gather.Given as goal

abbrev pub invariant-looks : goal.invariant-looks
invariant-looks g l = record {
  gathers : Gathers (g.L.Looker.known l.fn.seat) (g.L.Looker.known l.seat) l.scan.set l.scan.told l.numbers;
  set : l.scan.set ≡ l.fn.set.bits;
}

abbrev pub decreases-looks : goal.decreases-looks
decreases-looks g l = most_looks (size l.scan.set) - length l.scan.told
