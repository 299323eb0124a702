use Rattle.std.proofs.{Common.refl, Common.subst}
use Rattle.snap_world.proofs.{PhaseMoves.with_actors_writer, Sizes.segment_fits, Moves.the_writer, Moves.writer_moves}
use Rattle.snap_world.proofs.{Elements.set_same}
use Rattle.snap_world.specs.{declared.writer.WriterActor.WriterActor, inside.Stands.ActorsStand}
use Rattle.snap_world.specs.declared.writer.WriterPhase.TheVariants as writer
use Rattle.snap_world.proofs.actors.Actors.end_store.Goals as goal

pub index_mut-requires : goal.index_mut-requires
index_mut-requires c = segment_fits c.args.self.now c.requires.stands c.args.segment c.requires.within

pub returns-clause-stands : goal.returns-clause-stands
returns-clause-stands c x stands storing =
    let w = c.args.self.now in
    let i = c.args.segment in
    let old = c.index_mut.result.now in
    let a = the_writer w x stands i storing old c.index_mut.ensures.value in
    let new : WriterActor = record old { phase = writer.Stored } in
    subst (λ ws. ActorsStand (with_actors_writer w i new) (record x { writers = ws }))
    (set_same x.writers i a.state a.there) (writer_moves w x stands i new a.state a.state c.requires.within a.there refl
    (record { size = a.size; fenced = a.fenced; phase = a.phase }))
