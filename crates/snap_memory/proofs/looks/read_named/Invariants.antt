use Rattle.std.proofs.Common.{◌≡◌, ℕ, ◌<◌, length, List, Some, slice_get, slice_index}
use Rattle.snap_register.specs.Seat.{IsValue}
use Rattle.snap_scan.specs.Sets.{Names}
use Rattle.snap_memory.specs.Scans.{KeepsOthers}
use Rattle.snap_memory.proofs.looks.read_named.Given as goal

abbrev pub invariant-loop-i : goal.invariant-loop-i
invariant-loop-i g l = record {
  same : g.L.Looker.known l.seat ≡ g.L.Looker.known l.fn.seat;
  set : l.set ≡ l.fn.set;
  long : length l.out ≡ length l.fn.out;
  each : (i : ℕ) → i < l.i → Names l.fn.set.bits i → (x : ℕ × List ℕ)
      × (slice_get l.out i ≡ Some x) × (x.0 ≡ slice_index l.fn.numbers i)
      × IsValue (g.L.Looker.known l.fn.seat) i x.1;
  others : KeepsOthers l.fn.set.bits l.fn.out l.out;
}
