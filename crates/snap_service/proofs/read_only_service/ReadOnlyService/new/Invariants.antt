use Rattle.std.proofs.Common.{◌≡◌, length}
use Rattle.snap_service.proofs.read_only_service.ReadOnlyService.new.Given as goal

abbrev pub invariant-loop-handle : goal.invariant-loop-handle
invariant-loop-handle g l = length l.standings.items ≡ l.handle-index
