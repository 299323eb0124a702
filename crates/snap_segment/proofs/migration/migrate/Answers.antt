use Rattle.std.proofs.Common.{refl}
use Rattle.snap_segment.proofs.MigratedFile.{of_held}
use Rattle.snap_segment.proofs.migration.migrate.Goals as goal

pub returns-in-Ok-create-clause-any_time : goal.returns-in-Ok-create-clause-any_time
returns-in-Ok-create-clause-any_time g c old_honest new_honest = of_held _ c.in-Ok.ensures.found
    (c.in-Ok.ensures.given old_honest) c.value-value.ensures.value (c.create.ensures.leaves new_honest).any_time

pub returns-in-Ok-create-clause-now : goal.returns-in-Ok-create-clause-now
returns-in-Ok-create-clause-now g c old_honest new_honest = of_held _ c.in-Ok.ensures.found
    (c.in-Ok.ensures.given old_honest) c.value-value.ensures.value (c.create.ensures.leaves new_honest).now

pub returns-in-Err-create-clause-any_time : goal.returns-in-Err-create-clause-any_time
returns-in-Err-create-clause-any_time g c old_honest new_honest = of_held _ c.in-Ok.ensures.found
    (c.in-Ok.ensures.given old_honest) c.value-value.ensures.value (c.create.ensures.leaves new_honest).any_time

pub returns-in-Err-create-clause-now : goal.returns-in-Err-create-clause-now
returns-in-Err-create-clause-now g c old_honest new_honest = of_held _ c.in-Ok.ensures.found
    (c.in-Ok.ensures.given old_honest) c.value-value.ensures.value (c.create.ensures.leaves new_honest).now

pub returns-in-Ok-create-clause-last : goal.returns-in-Ok-create-clause-last
returns-in-Ok-create-clause-last g c old_honest new_honest = of_held _ c.in-Ok.ensures.found
    (c.in-Ok.ensures.given old_honest) c.value-value.ensures.value (refl, c.in-Ok-create.ensures.last new_honest)

pub returns-in-Ok-create-clause-bytes : goal.returns-in-Ok-create-clause-bytes
returns-in-Ok-create-clause-bytes g c old_honest new_honest = of_held _ c.in-Ok.ensures.found
    (c.in-Ok.ensures.given old_honest) c.value-value.ensures.value (c.in-Ok-create.ensures.bytes new_honest)
