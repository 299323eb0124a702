use Rattle.std.proofs.Common.{◌≡◌, ℕ, ◌+◌, ◌*◌, ◌<◌, length, slice_index, take, drop}
use Rattle.std.specs.Int.{w64, to_le_bytes}
use Rattle.snap_register.proofs.registers.pack.Given as goal

abbrev pub invariant-loop-q : goal.invariant-loop-q
invariant-loop-q l = record {
  long : length l.words ≡ 512;
  number_is : slice_index l.words 0 ≡ l.number;
  first : slice_index l.words 1 ≡ length l.value;
  whole : take (length l.value) l.bytes ≡ l.value;
  each : (k : ℕ) → k < l.q → to_le_bytes w64 (slice_index l.words (2 + k)) ≡ take 8 (drop (8 * k) l.bytes);
}
