use Rattle.snap_world.proofs.Stored.{call_fails, fail_moves, there}
use Rattle.snap_world.proofs.{Events.steps, Events.is_up}
use Rattle.std.proofs.{Common.refl, Common.ap}
use Rattle.snap_persist.specs.{Stage.calls_left}
use Rattle.snap_world.proofs.node.WorldNode.fail.Goals as goal

pub returns : goal.returns
returns c =
    let w = c.args.self.now in
    let i = c.args.segment in
    let may = c.if-not-may_store.ensures.0 refl in
    let d = c.index_mut.result.now in
    let read = c.index_mut.ensures.value in
    let e = c.fail.new.self in
    let missed = c.fail.ensures.missed in
    let fenced = c.fence.ensures in record {
      step = steps w _ _ _ (λ f. cc) fenced.segments (λ x stands. (
        may,
        fail_moves w i d (there w x stands i may d read) w.actors.segments x e c.fence.new.self c.args.fill.now
            (ap (λ s. calls_left s) c.fail.ensures.stage) fenced.phases,
        tt,
        call_fails w x stands i may d read e c.args.fill.now missed.0 missed.1 c.fence.new.self missed.2 missed.3
            fenced.segments (fenced.stands x (is_up w x may.0 stands).actors_stand) fenced.phases,
      ));
    }
