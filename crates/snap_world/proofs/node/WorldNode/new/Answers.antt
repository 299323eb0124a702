use Rattle.std.proofs.Common.{◌≡◌, ℕ, false, [], Some, slice_get, refl, ap, sym, ◌∙◌, subst}
use Rattle.snap_world.specs.inside.Drives.{DriveStands, IsFormatted, IsReady, device_of}
use Rattle.std.proofs.{lemmas.List.length-map}
use Rattle.snap_slot.specs.{States.IsAtRest}
use Rattle.snap_persist.specs.{Stage.calls_left, Stage.store_calls}
use Rattle.snap_history.proofs.{Lists.get-replicate}
use Rattle.snap_world.specs.{inside.NodeSteps.store_left, inside.NodeSteps.phases_of_node, declared.drive.Drive.Drive}
use Rattle.snap_world.specs.{declared.node.NodePhase.TheVariants.Up, declared.node.WorldNode.WorldNode, Phases.Phases}
use Rattle.snap_world.specs.{Start.start_world_phases}
use Rattle.snap_world.proofs.{Elements.map_element, Elements.all_same, Events.same_phases}
use Rattle.snap_world.specs.declared.writer.WriterPhase.TheVariants as writer
use Rattle.snap_world.proofs.node.WorldNode.new.Goals as goal

ready_of : (i n : ℕ) (d : Drive) → IsFormatted i n d → IsReady i n 0 [] (device_of d) d.persist
ready_of i n d is = record { spare_open = false; rest = is.rest; slot = is.slot; stage = is.stage }

pub returns-clause-phases : goal.returns-clause-phases
returns-clause-phases c =
    let n = c.args.segments in
    let drives = c.in_ok-new_drives.field-0.items in
    let w : WorldNode = record { phase = Up; actors = c.in_ok-new.field-0; drives = c.in_ok-new_drives.field-0 } in
    same_phases (start_world_phases n c.args.scanners) (phases_of_node w) refl c.in_ok-new.ensures.phases
    (all_same store_left (store_calls false) drives n c.in_ok-new_drives.ensures.0
    (λ i d e. ap calls_left (c.in_ok-new_drives.ensures.1 i d e).stage))

pub returns-clause-stands : goal.returns-clause-stands
returns-clause-stands c =
    let n = c.args.segments in
    let same = c.in_ok-new.ensures.segments in record {
      drives_n = c.in_ok-new_drives.ensures.0 ∙ sym same;
      at = record {
        actors_stand = c.in_ok-new.ensures.stands;
        drives_stand = λ i d s phase ed es ep. (
            let idle : writer.Idle ≡ phase = get-replicate n i writer.Idle phase
            (subst (λ (p : Phases). slice_get p.writers i ≡ Some phase) c.in_ok-new.ensures.phases ep) in
            subst (λ z. DriveStands c.in_ok-new.field-0.segments [] i z s.pending d) idle (subst (λ m. DriveStands m
            [] i writer.Idle s.pending d) (sym same) (ready_of i n d (c.in_ok-new_drives.ensures.1 i d ed))));
      };
    }

pub returns-clause-devices : goal.returns-clause-devices
returns-clause-devices c =
    let drives = c.in_ok-new_drives.field-0.items in record {
      size = length-map drives device_of ∙ c.in_ok-new_drives.ensures.0;
      each = λ i d e. (
          let drive = map_element device_of drives i d e in
          subst (IsAtRest i c.args.segments 0 [] false) drive.2 (c.in_ok-new_drives.ensures.1 i drive.0 drive.1).rest);
    }
