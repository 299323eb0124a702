use Rattle.std.{proofs.Common.◌≡◌, proofs.Common.[], specs.Prelude.replicate}
use Rattle.snap_register.proofs.snapshot.SnapshotBuf.new.Given as goal

abbrev pub invariant-loop : goal.invariant-loop
invariant-loop l = l.segments.items ≡ replicate l.counter (0, [])
