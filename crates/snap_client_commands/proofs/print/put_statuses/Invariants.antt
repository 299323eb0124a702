use Rattle.std.proofs.Common.{◌≡◌, ◌++◌, take}
use Rattle.snap_client_commands.specs.Text.{status_line}
use Rattle.snap_order.specs.Each.{each_from}
use Rattle.snap_client_commands.proofs.print.put_statuses.Given as goal

abbrev pub invariant-loop-index : goal.invariant-loop-index
invariant-loop-index l = l.out.items ≡ l.fn.out.items ++ each_from status_line 0 (take l.index l.statuses)
