use Rattle.std.proofs.Common.{◌≡◌, drop}
use Rattle.snap_args.specs.Dumps.{are_digits}
use Rattle.snap_args.proofs.dump.are_digits.Given as goal

abbrev pub invariant-loop-byte : goal.invariant-loop-byte
invariant-loop-byte l = are_digits l.bytes ≡ are_digits (drop l.byte-index l.bytes)
