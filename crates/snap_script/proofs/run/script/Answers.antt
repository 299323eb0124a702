use Rattle.snap_script.proofs.Runs.{runs_none}
use Rattle.snap_script.proofs.run.script.Goals as goal

pub returns-in_default : goal.returns-in_default
returns-in_default g c = runs_none _ _
