-- The exit status.
use Rattle.std.specs.Prelude.{ℕ}
use Rattle.snap_order.specs.declared.status.Status.{Status}
use Rattle.snap_order.specs.declared.status.Status.TheVariants.{Done, Failed, Misused, Refused}

abbrev pub code_of : Status → ℕ
code_of Done = 0
code_of Failed = 1
code_of Misused = 2
code_of Refused = 3
