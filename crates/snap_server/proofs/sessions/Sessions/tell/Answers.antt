use Rattle.std.proofs.Common.{sym, ap, ◌∙◌, ◌≡◌, [], refl, true≢false, is_some}
use Rattle.snap_server.proofs.SharedService.{moved, removed_are, turned_are, still_holds}
use Rattle.snap_server.proofs.Step.{written, then_listed, somebody, of_old, of_new, of_both, same_stage}
use Rattle.snap_server.proofs.Step.{over_off}
use Rattle.snap_server.proofs.TurnList.{lists_step, lists_removed, enlisted_going}
use Rattle.snap_server.specs.{declared.connection.ConnectionState.TheVariants.Over, TurnList.listed_behind}
use mathlib.Core.Logic.{∥∥₁_map}
use Rattle.snap_server.proofs.sessions.Sessions.tell.Goals as goal

pub invariant_of-self-then-take_outcome : goal.invariant_of-self-then-take_outcome
invariant_of-self-then-take_outcome g c =
    still_holds c.args.self.now _ (written _ c.args.key _ c.take_outcome.new.self
    (sym c.in-Some.ensures.value)) c.take_outcome.ensures.goes (same_stage c.take_outcome.ensures.stage)

pub invariant_of-self-2-clause-are : goal.invariant_of-self-2-clause-are
invariant_of-self-2-clause-are g c = ∥∥₁_map c.args.self.now.are (λ are.
    removed_are g.S.Service.gives _ _ _ c.args.key c.try_remove.ensures.updates
    (turned_are g.S.Service.gives _ _ (written _ c.args.key _ c.take_outcome.new.self
    (sym c.in-Some.ensures.value)) c.take_outcome.ensures.goes are))

pub invariant_of-self-2-clause-lists : goal.invariant_of-self-2-clause-lists
invariant_of-self-2-clause-lists g c =
    let told = c.take_outcome.new.self in
    let same = c.take_outcome.ensures.stage in
    let step = written c.args.self.now.connections c.args.key _ told (sym c.in-Some.ensures.value) in
    ∥∥₁_map c.args.self.now.lists (λ lists. lists_removed _ _ _ c.args.key told step.behind
    (over_off told.stage (same ∙ c.take_outcome.ensures.ended.0 c.if-take_outcome.false))
    c.try_remove.ensures.updates (lists_step _ step (same_stage same) lists))

pub returns-in_default-clause-moves : goal.returns-in_default-clause-moves
returns-in_default-clause-moves g c = ([], [], refl)

pub returns-then-take_outcome : goal.returns-then-take_outcome
returns-then-take_outcome g c =
    let told = c.take_outcome.new.self in
    let same = c.take_outcome.ensures.stage in
    let going = λ (over : c.in-Some.connection.now.stage ≡ Over).
    true≢false (sym c.if-take_outcome.true ∙ c.take_outcome.ensures.ended.1 over) in
    let there = written c.args.self.now.connections c.args.key _ told (sym c.in-Some.ensures.value) in
    let step = then_listed there c.list.new.self.connections
    (enlisted_going told.stage (λ over. going (sym same ∙ over)))
    c.list.ensures.listed c.list.ensures.others c.list.ensures.count in
    rw c.list.ensures.service (record {
      answered = of_both _ step c.take_outcome.ensures.answered;
      turn = of_both _ step c.take_outcome.ensures.goes;
      last = of_old _ step (told.session, c.take_outcome.ensures.goes);
      moves = moved g.S.Service.gives _ _ _ _ c.take_outcome.ensures.goes;
      nobody = λ none. absurd (somebody step none);
      held = of_both _ step c.take_outcome.ensures.held;
      listed = of_new _ step refl;
      behind = of_old _ step (c.list.ensures.behind told there.behind
          ∙ ap (λ s. listed_behind s c.args.key c.args.self.now.listed.items) same);
      unlisted = λ none. absurd (somebody step none);
      gone = of_old _ step (λ over. absurd (going over));
      kept = λ b old still. ap is_some step.behind;
      others = step.others;
    })
