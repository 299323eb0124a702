use Rattle.snap_writer.proofs.Judgements.{some_rule}
use Rattle.snap_writer.proofs.laws.judge_laws.Goals as goal

pub returns-clause-some : goal.returns-clause-some
returns-clause-some g c w k v low = some_rule w k v low
