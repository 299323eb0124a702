use Rattle.std.proofs.lemmas.Result.{IfErr-weaker}
use Rattle.snap_segment.proofs.migration.read_old.Goals as goal

pub returns-in-Ok-clause-refused : goal.returns-in-Ok-clause-refused
returns-in-Ok-clause-refused g c honest = IfErr-weaker c.recover_old.result _ _
    (λ why is. rw (← c.in-Ok.ensures.given honest) is.0) c.recover_old.ensures.refused
