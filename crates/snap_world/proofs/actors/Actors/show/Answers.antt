use Rattle.snap_history.specs.History.{Update, from_nothing, IsMemory}
use Rattle.std.proofs.Common.{◌+◌, [], ◌∷◌, ◌++◌, length, take, slice_set, refl, ap, subst, ◌∙◌, sym, arith}
use Rattle.snap_world.proofs.Events.{writer_shows, up_at, came}
use Rattle.snap_world.proofs.Moves.{within, the_writer, the_register, own_moment, world_shows, shown_register}
use Rattle.snap_world.proofs.Moves.{shown_view, whole}
use Rattle.snap_world.specs.Machine.{WriterState, Shown, with_update}
use Rattle.std.proofs.{Math.Logic.∥∥₁_elim, Props.props}
use Rattle.snap_world.proofs.{PhaseMoves.writer_moved}
use Rattle.snap_world.specs.{Phases.Phases, declared.writer.WriterActor.WriterActor}
use Rattle.snap_world.specs.{declared.register.Register.Register}
use Rattle.snap_world.specs.{inside.Drives.DrivesStand, inside.Steps.phases_of_actors}
use Rattle.snap_world.specs.declared.writer.WriterPhase.TheVariants as writer
use Rattle.snap_world.proofs.actors.Actors.show.Goals as goal

pub overflow_add-register : goal.overflow_add-register
overflow_add-register c = ∥∥₁_elim c.requires.stands (hlevel props) (λ q. (
    let w = c.args.self.now in
    let i = c.args.segment in
    let is = c.if-not-writer_is.ensures.0 refl in
    let a = the_writer w q.0 q.1 i is c.index_mut-writer.result.now c.index_mut-writer.ensures.value in
    let r = the_register w q.0 q.1 i c.index_mut-register.result.now (within w q.0 q.1 i is)
    c.index_mut-register.ensures.value in omega (arith, r.number, a.phase.0.room)))

pub copy_all-requires : goal.copy_all-requires
copy_all-requires c = ∥∥₁_elim c.requires.stands (hlevel props) (λ q. (
    let w = c.args.self.now in
    let i = c.args.segment in
    let is = c.if-not-writer_is.ensures.0 refl in
    let a = the_writer w q.0 q.1 i is c.index_mut-writer.result.now c.index_mut-writer.ensures.value in
    let r = the_register w q.0 q.1 i c.index_mut-register.result.now (within w q.0 q.1 i is)
    c.index_mut-register.ensures.value in r.size ∙ sym a.size))

pub returns : goal.returns
returns c =
    let w = c.args.self.now in
    let i = c.args.segment in
    let is = c.if-not-writer_is.ensures.0 refl in
    let old = c.index_mut-writer.result.now in
    let v = old.value in
    let new : WriterActor = record old { phase = writer.Shown } in
    let register : Register = record {
      number = c.index_mut-register.result.now.number + 1;
      value = c.set.new.self;
      view = c.copy_all.new.to;
    } in record {
      step = came w _ _ _ (λ e. cc) (λ _ _ _ _ _ _. (refl, tt)) refl (λ ds x up. (
          let stands = up.actors_stand in
          let l = within w x stands i is in
          let a = the_writer w x stands i is old c.index_mut-writer.ensures.value in
          let r = the_register w x stands i c.index_mut-register.result.now l c.index_mut-register.ensures.value in
          let begun = a.phase.0 in
          let answer = a.phase.1 in
          let h = x.history in
          let u : Update = record { segment = i; value = v } in
          let state : WriterState = record (a.state) { pending = Shown v; view = a.state.scan.moment } in
          let here_r = shown_register w.segments h u register (ap (λ y. y + 1) r.number)
          (c.set.ensures ∙ c.as_slice.ensures.bytes) (ap length c.copy_all.ensures ∙ a.size) in
          let here_v = shown_view h u w.segments i register stands.since state answer.p answer.moment (record {
            until = omega (arith, begun.gathers.end, answer.is_moment.until);
            before = ap (λ y. y + 1) (own_moment w.segments h stands.since i old a.state begun answer.p
                answer.is_moment.after answer.is_moment.until ∙ sym r.number);
            is_memory = subst (IsMemory w.segments from_nothing (take answer.p h)) (sym c.copy_all.ensures)
                (whole w.segments h old.collector.memory.items answer.p stands.most a.size answer.is);
          }) in (
            with_update x i v state,
            (a.state, v, a.there, begun.pending, refl),
            record {
              actors_stand = world_shows w x stands i v register new state l here_r here_v
                  (record { size = a.size; fenced = a.fenced; phase = (v, refl) });
              drives_stand = subst (λ (p : Phases). DrivesStand w.segments
                  (h ++ u ∷ []) (slice_set x.writers i state) p.writers ds) (sym (writer_moved w i new))
                  (writer_shows w.segments h x.writers (phases_of_actors w).writers ds up.drives_stand i state v
                  (λ d ed. up.drives_stand i d a.state writer.Stored ed a.there is v begun.pending));
            },
          ))) (λ ds x stands. (refl, is)) (λ ds x stands. ap (up_at ds) (writer_moved w i new));
    }
