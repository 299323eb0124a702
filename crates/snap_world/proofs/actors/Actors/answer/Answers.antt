use Rattle.std.proofs.{Common.Some, Common.refl, Common.ap, Common.subst, Common.◌∙◌, Math.Logic.∥∥₁_elim, Props.props}
use Rattle.snap_world.{specs.declared.scanner.ScannerActor.ScannerActor, proofs.LookingOn.seen_within}
use Rattle.snap_world.{proofs.LookingOn.answers}
use Rattle.snap_world.{proofs.PhaseMoves.scanner_there, specs.inside.Steps.IsReplyOf, proofs.Events.scanner_goes}
use Rattle.snap_world.{proofs.Elements.same_read, proofs.Moves.the_scanner, specs.Machine.Closed}
use Rattle.snap_world.specs.declared.scanner.ScannerPhase.TheVariants as scanner
use Rattle.snap_world.proofs.actors.Actors.answer.Goals as goal

-- the scanner that was read has its answer
pub reply-requires : goal.reply-requires
reply-requires c = record {
  within = λ set only place i at. ∥∥₁_elim c.requires.stands (hlevel props) (λ q. (
      let w = c.args.self.now in
      let old = c.index.result.now in
      let a = the_scanner w q.0 q.1 c.args.at (c.if-not-scanner_is.ensures.0 refl) old c.index.ensures in
      seen_within w.segments q.0.history a.phase.0 old.collector.memory.items old.asked a.phase.3 set only place i at));
}

pub returns-clause-step : goal.returns-clause-step
returns-clause-step c =
    let w = c.args.self.now in
    let i = c.args.at in
    let is = c.if-not-scanner_is.ensures.0 refl in
    let there = scanner_there w i is in
    let old = c.index_mut.result.now in
    let read = c.index_mut.ensures.value in
    let memory = old.collector.memory.items in
    let reply = c.in_ok-reply.reply in
    let replies : IsReplyOf old.asked memory reply =
    subst (λ (z : ScannerActor). IsReplyOf z.asked z.collector.memory.items reply)
    (same_read w.scanners.items i c.index.result.now old there c.index.ensures read) c.in_ok-reply.ensures in
    let new : ScannerActor = record old { phase = scanner.Idle } in
    answers w i new old.asked memory reply replies is refl (λ ds x up. (
    let a = the_scanner w x up.actors_stand i is old read in (
      a.phase.0,
      a.there ∙ ap (λ z. Some z) a.phase.1,
      a.phase.3,
      a.size,
      scanner_goes w ds x up i new Closed there (record { size = a.size; phase = refl }),
    )))
