use Rattle.snap_world.proofs.Serves.{marks, h, memory, y, actors_stand, drives_stand, same_devices, device_served}
use Rattle.snap_world.proofs.Serves.{gates, idle_phases}
use Rattle.std.proofs.Common.{refl, sym, ◌∙◌, subst}
use Rattle.snap_world.proofs.{Events.steps}
use Rattle.snap_world.specs.{inside.NodeSteps.store_left}
use Rattle.std.proofs.{lemmas.List.length-map}
use Rattle.snap_history.specs.{History.from_nothing, History.IsMemory}
use Rattle.snap_world.proofs.node.WorldNode.serve.Goals as goal

pub returns-in_ok-values-in-Ready-clause-step : goal.returns-in_ok-values-in-Ready-clause-step
returns-in_ok-values-in-Ready-clause-step c =
    let w = c.args.self.now in
    let is = c.in-Ready.is in
    let registers = c.recover_all.new.registers in
    let es = c.resume_all.new.drives.items in
    let got = c.recover_all.ensures in
    let set = c.resume_all.ensures in
    let calls = length-map es store_left ∙ sym set.size ∙ sym (length-map w.drives.items store_left) in
    steps w _ _ _ (λ e. cc) refl (λ x stands. (
      is,
      (refl, idle_phases w x stands is registers es got set, calls),
      gates w x stands is registers es got set,
      (
        y w x stands is registers es got set,
        (
          marks w x stands is,
          subst (IsMemory w.actors.segments from_nothing (h w x stands is)) (sym c.in_ok-values-in-Ready.ensures)
              (memory w x stands is),
          refl,
        ),
        (same_devices w x stands is registers es got set, device_served w x stands is registers es got set),
        record {
          drives_n = sym set.size ∙ stands.drives_n;
          at = record {
            actors_stand = actors_stand w x stands is registers es got set;
            drives_stand = drives_stand w x stands is registers es got set;
          };
        },
      ),
    ))
