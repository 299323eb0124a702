use Rattle.snap_laws.proofs.Between.{migrate_end}
use Rattle.snap_laws.proofs.crashes.migrate_between.Goals as goal

pub returns : goal.returns
returns g c = migrate_end g.N.Disk _ _ _ (g.O.Disk.device c.args.old) _ _ _ c.act_pair.ensures.ends
