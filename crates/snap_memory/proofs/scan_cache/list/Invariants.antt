use Rattle.std.proofs.Common.{◌≡◌, length, map}
use Rattle.snap_scan.specs.{Sets.named_below, Values.pair_of}
use Rattle.snap_memory.specs.ScanCaches.{AreKept, AreEntries}
use Rattle.snap_memory.proofs.scan_cache.list.Given as goal

abbrev pub invariant-loop-i : goal.invariant-loop-i
invariant-loop-i g l = record {
  same : g.L.Looker.known l.seat ≡ g.L.Looker.known l.fn.seat;
  set : l.set ≡ l.fn.set;
  found : l.found ≡ l.fn.found;
  cache : length l.cache.items ≡ length l.fn.cache.items;
  kept : AreKept (g.L.Looker.known l.fn.seat) l.cache.items;
  entries : AreEntries (named_below l.fn.set.bits l.i) (g.L.Looker.known l.fn.seat) l.fn.found
      (map pair_of l.values.items);
}
