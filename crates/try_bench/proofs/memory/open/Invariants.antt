use Rattle.std.proofs.Common.{◌≡◌, ℕ, length, Some, slice_get, Vec, Global}
use Rattle.snap_history.specs.Limits.{IsNumber, IsShort}
use Rattle.try_bench.proofs.memory.open.Given as goal

abbrev pub invariant-loop : goal.invariant-loop
invariant-loop l = record {
  count : length l.values.items ≡ l.counter;
  each : (i : ℕ) (x : ℕ × Vec ℕ Global) → slice_get l.values.items i ≡ Some x
      → IsNumber x.0 × IsShort x.1.items;
}
