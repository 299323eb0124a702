use Rattle.std.proofs.Common.{◌≡◌, ◌++◌, take}
use Rattle.snap_order.specs.Each.{each_from}
use Rattle.snap_order.specs.declared.order.OutputFormat.TheVariants.{Lines}
use Rattle.snap_client_commands.specs.Text.{value_line}
use Rattle.snap_client_commands.proofs.print.put_values.Given as goal

abbrev pub invariant-loop-index : goal.invariant-loop-index
invariant-loop-index l =
    l.layout ≡ Lines → l.out.items ≡ l.fn.out.items ++ each_from value_line 0 (take l.index l.values)
