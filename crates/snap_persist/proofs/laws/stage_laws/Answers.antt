use Rattle.snap_persist.proofs.Stages.{write_leaves}
use Rattle.snap_persist.proofs.laws.stage_laws.Goals as goal

pub returns-clause-write_leaves : goal.returns-clause-write_leaves
returns-clause-write_leaves c i n k u v small fits d e at w asked is touched b left =
    write_leaves i n k u v small fits d e at w asked is touched b left
