use Rattle.snap_world.proofs.Restarts.{goes_down, halted_phases, crashed_devices, crashed_calls}
use Rattle.std.proofs.Common.{◌≡◌, length, refl, sym, ◌∙◌, arith}
use Rattle.snap_world.proofs.{Events.steps, Events.same_phases}
use Rattle.snap_world.specs.{inside.NodeSteps.store_left, Machine.crashed}
use Rattle.std.proofs.{lemmas.List.length-map}
use Rattle.snap_world.proofs.node.WorldNode.crash.Goals as goal

pub returns : goal.returns
returns c =
    let w = c.args.self.now in
    let ds = w.drives.items in
    let es = c.crash_all.new.drives.items in
    let fills = c.args.fills.now.items in
    let crash = c.crash_all.ensures in
    let actors = c.halt.new.self in
    let h = c.halt.ensures in
    let long : length fills ≡ length ds = omega (arith, c.args.fills.now.ok.0, w.drives.ok.0) in record {
      step = steps w _ _ _ (λ e. cc) h.segments (λ x stands. (
        long ∙ sym (length-map ds store_left),
        same_phases _ _ refl (halted_phases w.actors actors h.segments h.registers h.writers h.scanners)
            (crashed_calls ds es fills long crash),
        tt,
        (
          crashed x,
          refl,
          crashed_devices ds es fills crash,
          record {
            drives_n = sym crash.size ∙ stands.drives_n ∙ sym h.segments;
            at = goes_down w.actors actors h.segments h.registers h.writers h.scanners ds es fills x w.phase long
                stands.at crash;
          },
        ),
      ));
    }
