use Rattle.std.proofs.Common.{refl}
use Rattle.snap_world.{specs.declared.actors.Actors.Actors, proofs.NewWorld.starts, proofs.NewWorld.phases_idle}
use Rattle.snap_world.proofs.actors.Actors.new.Goals as goal

pub returns : goal.returns
returns c =
    let w : Actors = record {
      segments = c.args.segments;
      registers = c.in_ok-new_registers.field-0;
      writers = c.in_ok-new_writers.field-0;
      scanners = c.in_ok-new_scanners.field-0;
    } in
    let a = c.in_ok-new_registers.ensures in
    let b = c.in_ok-new_writers.ensures in
    let d = c.in_ok-new_scanners.ensures in record {
      segments = refl;
      phases = phases_idle w c.args.segments c.args.scanners b.0 d.0
          (λ i x e. (b.1 i x e).phase) (λ i x e. (d.1 i x e).phase);
      stands = starts w c.args.scanners c.requires.least c.requires.most a.0 b.0 d.0 a.1 b.1 d.1;
    }
