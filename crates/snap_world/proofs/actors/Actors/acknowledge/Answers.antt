use Rattle.snap_world.proofs.Moves.{within, the_writer, the_register}
use Rattle.snap_world.proofs.Events.{up_at, came, writer_goes}
use Rattle.snap_world.specs.Machine.{WriterState, Free, with_writer}
use Rattle.std.proofs.{Common.refl, Common.ap}
use Rattle.snap_world.proofs.{PhaseMoves.writer_moved}
use Rattle.snap_world.specs.{declared.writer.WriterActor.WriterActor, Answers.scan_from}
use Rattle.snap_world.specs.declared.writer.WriterPhase.TheVariants as writer
use Rattle.snap_world.proofs.actors.Actors.acknowledge.Goals as goal

pub returns : goal.returns
returns c =
    let w = c.args.self.now in
    let i = c.args.segment in
    let is = c.if-not-writer_is.ensures.0 refl in
    let old = c.index_mut.result.now in
    let new : WriterActor = record old { phase = writer.Idle } in record {
      step = came w _ _ _ (λ e. cc) (λ _ _ _ _ _ _. (refl, tt)) refl (λ ds x up. (
          let stands = up.actors_stand in
          let l = within w x stands i is in
          let a = the_writer w x stands i is old c.index_mut.ensures.value in
          let r = the_register w x stands i c.index.result.now l c.index.ensures in
          let state : WriterState = record (a.state) { pending = Free; scan = scan_from 0 } in (
            with_writer x i state,
            (a.state, a.phase.0, a.there, a.phase.1, r.number, refl),
            writer_goes w ds x up i new a.state state l a.there refl (record {
              size = a.size;
              fenced = a.fenced;
              phase = refl;
            }) (λ d ed. up.drives_stand i d a.state writer.Shown ed a.there is),
          ))) (λ ds x stands. (refl, is)) (λ ds x stands. ap (up_at ds) (writer_moved w i new));
    }
