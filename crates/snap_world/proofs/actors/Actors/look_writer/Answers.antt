use Rattle.std.proofs.Common.{rules, refl, sym, subst, inl, inr}
use Rattle.std.proofs.{lemmas.Bool.MatchBool-at_true, lemmas.Bool.MatchBool-at_false}
use Rattle.snap_world.specs.{inside.NodeSteps.IsActorsStep, inside.Gathers.IsUnderWay}
use Rattle.snap_world.specs.{declared.event.Event.TheVariants.Look, declared.event.Reply.TheVariants.Number}
use Rattle.snap_world.proofs.{LookingOn.writer_can_look, LookingOn.writer_looks, PhaseMoves.writer_read}
use Rattle.snap_world.proofs.{actors.Actors.look_writer.Goals.then-is_done}
use Rattle.snap_world.proofs.{actors.Actors.look_writer.Goals.else-is_done}
use Rattle.snap_world.specs.declared.event.Actor.TheVariants as actor
use Rattle.snap_world.specs.declared.writer.WriterPhase.TheVariants as writer
use Rattle.snap_world.proofs.actors.Actors.look_writer.Goals as goal

pub look-number-requires : goal.look-number-requires
look-number-requires c = search (rules, writer_can_look)

pub returns : goal.returns
returns c =
    let w = c.args.self.now in
    let i = c.args.segment in
    let k = c.look-number.result in
    let new = c.look-number.new.self in
    let is = c.if-not-writer_is.ensures.0 refl in
    let old = c.index_mut-writer.result.now in
    let read = c.index_mut-writer.ensures.value in
    let looks = writer_looks w i is old read k new c.look-number.ensures.look in
    let Step = IsActorsStep w (Look (actor.Writer i)) (Number k) in record {
      step = elim c.if-is_done.branch [
        | then-is_done b ↦ subst Step (sym b.self-is) (looks writer.Storing (inr (
          MatchBool-at_true (IsUnderWay new → ⊥) (IsUnderWay new) b.if-is_done.true c.is_done.ensures.under_way,
          refl,
        )))
        | else-is_done b ↦ subst Step (sym b.self-is) (looks old.phase (inl (
          MatchBool-at_false (IsUnderWay new → ⊥) (IsUnderWay new) b.if-is_done.false c.is_done.ensures.under_way,
          (writer_read w i is old read).1,
        )))
      ];
    }
