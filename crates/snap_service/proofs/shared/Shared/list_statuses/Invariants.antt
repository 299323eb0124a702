use Rattle.std.proofs.Common.{◌≡◌, All, length}
use Rattle.snap_frame.specs.Messages.{IsStatus}
use Rattle.snap_service.proofs.shared.Shared.list_statuses.Given as goal

abbrev pub invariant-loop-lock : goal.invariant-loop-lock
invariant-loop-lock g l = record {
  count : length l.statuses.items ≡ l.lock-index;
  limits : All IsStatus l.statuses.items;
  scanner : l.token.scanner ≡ l.fn.token.scanner;
  updates : l.token.updates ≡ l.fn.token.updates;
}
