use Rattle.std.proofs.Common.{◌≡◌, All, length}
use Rattle.snap_frame.specs.Messages.{IsStatus}
use Rattle.snap_service.proofs.reads.list_statuses.Given as goal

abbrev pub invariant-loop-standing : goal.invariant-loop-standing
invariant-loop-standing g l = (length l.statuses.items ≡ l.standing-index) × All IsStatus l.statuses.items
