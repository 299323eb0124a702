use Rattle.std.proofs.Common.{◌≡◌, length}
use Rattle.snap_file_commands.proofs.system.files.first_faults.Given as goal

abbrev pub invariant-loop : goal.invariant-loop
invariant-loop l = length l.told.items ≡ l.counter
