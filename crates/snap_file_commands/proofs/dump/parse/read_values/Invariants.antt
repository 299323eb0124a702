use Rattle.std.proofs.Common.{◌≡◌, All, length}
use Rattle.snap_file_commands.specs.Document.{IsKeepable}
use Rattle.snap_file_commands.proofs.dump.parse.read_values.Given as goal

abbrev pub invariant-loop-index : goal.invariant-loop-index
invariant-loop-index l = (length l.values.items ≡ l._index) × All IsKeepable l.values.items
