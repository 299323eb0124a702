use Rattle.std.proofs.Common.{◌≡◌, ◌++◌, flat_map, take}
use Rattle.snap_order.specs.declared.order.OutputFormat.TheVariants.{Lines}
use Rattle.snap_client_commands.specs.Text.{named_line}
use Rattle.snap_client_commands.proofs.print.put_part.Given as goal

abbrev pub invariant-loop-value : goal.invariant-loop-value
invariant-loop-value l =
    l.layout ≡ Lines → l.out.items ≡ l.fn.out.items ++ flat_map named_line (take l.value-index l.values)
