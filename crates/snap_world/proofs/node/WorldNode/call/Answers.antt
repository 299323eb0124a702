use Rattle.std.proofs.Common.{◌≡◌, ◌∷◌, refl, ap, sym, ◌∙◌}
use Rattle.snap_world.proofs.Stored.{going_done, not_done, call_goes, call_ends, call_moves, call_stores, there}
use Rattle.snap_world.proofs.Stored.{storing, number_is, value_is}
use Rattle.snap_persist.specs.Stage.{calls_left, first_call, after_call}
use Rattle.snap_world.proofs.{Events.steps, Events.is_up}
use Rattle.snap_world.specs.{Calls.store_call, declared.drive.Drive.Drive}
use Rattle.snap_persist.specs.{declared.persist.NextCall.TheVariants.Done}
use Rattle.snap_world.proofs.node.WorldNode.call.Goals as goal

pub returns : goal.returns
returns c =
    let w = c.args.self.now in
    let i = c.args.segment in
    let may = c.if-not-may_store.ensures.0 refl in
    let d = c.index_mut-drive.result.now in
    let read = c.index_mut-drive.ensures.value in
    let mid = c.call-kind.new.self in
    let e : Drive = record mid { persist = c.begin-drive.result } in
    let kind = c.call-kind.result in
    let actors = c.end_store.new.self in
    let at = c.call-kind.ensures.stage in
    let last : first_call (calls_left (after_call d.persist.stage)) ≡ Done =
    ap (λ s. first_call (calls_left s)) (sym at) ∙ sym c.next.ensures ∙ c.in-Done.is in record {
      step = steps w _ _ _ (λ f. cc) c.end_store.ensures.segments (λ x stands. (
          let done = at ∙ going_done d.persist.stage (storing w x stands i may d read).going last in (
            may,
            call_stores w i d (there w x stands i may d read) kind w.actors.segments x e actors
                (c.call-kind.ensures.kind ∙ ap (λ s. store_call kind ∷ calls_left s) done)
                c.begin-drive.ensures.calls c.end_store.ensures.phases,
            tt,
            call_ends w x stands i may d read e kind c.index.result.now.number c.as_slice.result.now
                (number_is w x stands i may c.index.result.now c.index.ensures)
                (c.as_slice.ensures.bytes ∙ value_is w x stands i may c.index-2.result.now c.index-2.ensures)
                c.call-kind.ensures.made mid.persist actors c.call-kind.ensures.kind at done
                c.begin-drive.ensures.stage (c.begin-drive.ensures.slot ∙ c.slot_of.ensures)
                c.end_store.ensures.segments
                (c.end_store.ensures.stands x (is_up w x may.0 stands).actors_stand may.1) c.end_store.ensures.phases,
          )));
    }

pub returns-in_default : goal.returns-in_default
returns-in_default c =
    let w = c.args.self.now in
    let i = c.args.segment in
    let may = c.if-not-may_store.ensures.0 refl in
    let d = c.index_mut-drive.result.now in
    let read = c.index_mut-drive.ensures.value in
    let e = c.call-kind.new.self in
    let kind = c.call-kind.result in
    let going = not_done e.persist.stage (λ f. c.in_default.not-Done (c.next.ensures ∙ f)) in record {
      step = steps w _ _ _ (λ f. cc) refl (λ x stands. (
        may,
        call_moves w i d (there w x stands i may d read) kind w.actors.segments x e c.call-kind.ensures.kind going,
        tt,
        call_goes w x stands i may d read e kind c.index.result.now.number c.as_slice.result.now
            (number_is w x stands i may c.index.result.now c.index.ensures)
            (c.as_slice.ensures.bytes ∙ value_is w x stands i may c.index-2.result.now c.index-2.ensures)
            c.call-kind.ensures.made c.call-kind.ensures.kind c.call-kind.ensures.slot c.call-kind.ensures.stage going,
      ));
    }
