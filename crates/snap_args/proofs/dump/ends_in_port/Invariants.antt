use Rattle.std.proofs.Common.{◌≡◌, drop}
use Rattle.snap_args.specs.Dumps.{ends_in_port}
use Rattle.snap_args.proofs.dump.ends_in_port.Given as goal

abbrev pub invariant-loop-at : goal.invariant-loop-at
invariant-loop-at l = ends_in_port l.fn.word ≡ ends_in_port (drop l.at l.word)
