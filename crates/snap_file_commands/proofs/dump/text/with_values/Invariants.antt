use Rattle.std.proofs.Common.{◌≡◌, ◌++◌, take}
use Rattle.snap_order.specs.Each.{each_from}
use Rattle.snap_file_commands.specs.Document.{row}
use Rattle.snap_file_commands.proofs.dump.text.with_values.Given as goal

abbrev pub invariant-loop-index : goal.invariant-loop-index
invariant-loop-index l = l.text.items ≡ l.fn.text.items ++ each_from row 0 (take l.index l.values)
