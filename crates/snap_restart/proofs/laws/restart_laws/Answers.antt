use Rattle.snap_restart.proofs.Starts.{last, made, first}
use Rattle.snap_restart.proofs.laws.restart_laws.Goals as goal

pub returns-clause-any_number : goal.returns-clause-any_number
returns-clause-any_number g c = λ n start moments devices past. last g.D.Disk n start moments devices past

pub returns-clause-first : goal.returns-clause-first
returns-clause-first g c = first g.D.Disk

pub returns-clause-made : goal.returns-clause-made
returns-clause-made g c = made g.D.Disk
