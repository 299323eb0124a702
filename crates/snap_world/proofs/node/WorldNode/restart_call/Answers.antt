use Rattle.std.proofs.Common.{◌≡◌, length, refl, ap, ◌∙◌, arith}
use Rattle.snap_disk.specs.{Image.image_device}
use Rattle.snap_world.specs.{declared.node.NodePhase.TheVariants.Restarting, declared.drive.Drive.Drive}
use Rattle.snap_world.proofs.{Restarts.sync_step, Restarts.read_step}
use Rattle.snap_world.proofs.node.WorldNode.restart_call.Goals as goal

pub returns-in-Sync : goal.returns-in-Sync
returns-in-Sync c =
    let i = c.in-Restarting.segment in
    let d = c.index_mut.result.now in
    let e : Drive = record d { image = c.settle.new.self } in record {
      step = sync_step c.args.self.now i d c.index_mut.ensures.value e refl
          (c.in-Restarting.is ∙ ap (Restarting i) c.in-Sync.is) c.settle.ensures;
    }

pub returns-in-Read : goal.returns-in-Read
returns-in-Read c =
    let w = c.args.self.now in
    let i = c.in-Restarting.segment in
    let size : c.len-count.result ≡ length w.drives.items = omega (arith, c.args.self.now.drives.ok.0) in record {
      step = read_step w i c.index_mut-in-Read.result.now c.index_mut-in-Read.ensures.value c.read.new.self
          c.read.ensures.persist (c.in-Restarting.is
          ∙ ap (Restarting i) c.in-Read.is) c.len-count.result size c.after_read-self.result c.after_read-self.ensures
          (ap image_device c.read.ensures.image) c.read.ensures.found;
    }
