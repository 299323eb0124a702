use Rattle.std.proofs.Common.{true, refl, sym}
use Rattle.snap_history.proofs.{Pairs.partner}
use Rattle.std.proofs.{lemmas.Option.slice_get_read}
use Rattle.snap_world.proofs.{Moves.writer_moves, Sizes.segment_fits}
use Rattle.snap_world.specs.{inside.Stands.WriterStands, declared.writer.WriterActor.WriterActor, Machine.WriterState}
use Rattle.snap_world.specs.declared.writer.WriterPhase.TheVariants as writer
use Rattle.snap_world.proofs.actors.Actors.fence.Goals as goal

pub index_mut-requires : goal.index_mut-requires
index_mut-requires c = segment_fits c.args.self.now c.requires.stands c.args.segment c.requires.within

pub returns-clause-stands : goal.returns-clause-stands
returns-clause-stands c x stands s v there begun =
    let w = c.args.self.now in
    let i = c.args.segment in
    let l = c.requires.within in
    let old = c.index_mut.result.now in
    let was = partner (WriterStands w.segments x.history stands.since) w.writers.items x.writers i old stands.writers
    (slice_get_read w.writers.items w.segments i old (sym stands.writers_n) l c.index_mut.ensures.value) in
    let new : WriterActor = record old { phase = writer.Fenced } in
    let state : WriterState = record s { fenced = true } in
    writer_moves w x stands i new s state l there refl (record { size = was.2.size; fenced = refl; phase = (v, begun) })
