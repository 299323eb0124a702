use Rattle.std.proofs.Common.{◌≡◌}
use Rattle.snap_service.proofs.outbox.Outbox.hand_over.Given as goal

abbrev pub invariant-loop : goal.invariant-loop
invariant-loop g l = l.self-inside ≡ l.initial.self-inside
