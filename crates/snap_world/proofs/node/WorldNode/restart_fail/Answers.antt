use Rattle.std.proofs.Common.{refl, ap, ◌∙◌}
use Rattle.snap_world.specs.{declared.node.NodePhase.TheVariants.Restarting, declared.drive.Drive.Drive}
use Rattle.snap_world.proofs.{Restarts.sync_fail_step}
use Rattle.snap_world.proofs.node.WorldNode.restart_fail.Goals as goal

pub returns-in-Sync : goal.returns-in-Sync
returns-in-Sync c =
    let i = c.in-Restarting.segment in
    let d = c.index_mut.result.now in
    let e : Drive = record d { image = c.settle_failed.new.self } in
    let refilled = c.settle_failed.ensures in record {
      step = sync_fail_step c.args.self.now i d c.index_mut.ensures.value e refl (c.in-Restarting.is ∙ ap
          (Restarting i) c.in-Sync.is) c.args.fill.now (record { left = refilled.unsynced; filled = refilled.filled });
    }
