use Rattle.std.proofs.Common.{◌≡◌, ℕ, ◌+◌, ◌<◌, ◌%◌, ◌^◌, length, slice_index}
use Rattle.snap_devices.specs.Noise.{noise_byte}
use Rattle.snap_devices.proofs.noise.NoiseDisk.read_at.Given as goal

abbrev pub invariant-loop-k : goal.invariant-loop-k
invariant-loop-k l = record {
  long : length l.buf ≡ length l.fn.buf;
  drawn : (i : ℕ) → i < l.k
      → slice_index l.buf i ≡ noise_byte ((l.fn.self.drawn + i) % 2 ^ 64);
}
