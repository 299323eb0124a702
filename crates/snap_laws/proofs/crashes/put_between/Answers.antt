use Rattle.snap_laws.proofs.Between.{put_end}
use Rattle.snap_laws.proofs.crashes.put_between.Goals as goal

pub returns : goal.returns
returns g c = put_end g.D.Disk _ _ _ _ _ _ _ c.act.ensures.ends
