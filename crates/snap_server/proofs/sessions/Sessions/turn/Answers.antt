use Rattle.std.proofs.Common.{arith, sym, ap, subst, ◌∙◌, ◌≡◌, ◌⊎◌, [], None, is_some, inl, inr, refl}
use Rattle.std.proofs.lemmas.Grind.{common_steps}
use Rattle.snap_session.specs.declared.turns.Polled.TheVariants.{NeedsInput, NeedsRoom, NeedsOutcome}
use Rattle.snap_session.specs.{Talk.Talk, Turns.StandsAt, declared.turns.Polled.Polled}
use Rattle.snap_server.proofs.Step.{written, then_listed, somebody, of_new, of_both, same_stage, ends_idle}
use Rattle.snap_server.specs.{declared.connection.Connection.Connection, TurnList.enlisted, ConnectionStates.Waits}
use Rattle.snap_server.specs.{declared.connection.ConnectionState.TheVariants.Over, TurnList.listed_behind}
use Rattle.snap_server.proofs.SharedService.{moved, still_holds}
use Rattle.snap_server.proofs.sessions.Sessions.turn.Goals as goal

-- the connection waits for one of the three
waiting : (turn : Polled) (t : Talk) → (turn ≡ NeedsInput) ⊎ ((turn ≡ NeedsRoom) ⊎ (turn ≡ NeedsOutcome))
    → StandsAt turn t None → Waits t
waiting turn t (inl is) at = inl (subst (λ (r : Polled). StandsAt r t None) is at)
waiting turn t (inr (inl is)) at = inr (inl (subst (λ (r : Polled). StandsAt r t None) is at))
waiting turn t (inr (inr is)) at = inr (inr (subst (λ (r : Polled). StandsAt r t None) is at))

pub invariant_of-self-in-Again : goal.invariant_of-self-in-Again
invariant_of-self-in-Again g c =
    still_holds c.args.self.now _ (written _ c.args.key _ c.go_on.new.self
    (sym c.in_ok-connection.ensures.value)) c.go_on.ensures.goes (same_stage c.go_on.ensures.stage)

pub invariant_of-self-in-NeedsInput : goal.invariant_of-self-in-NeedsInput
invariant_of-self-in-NeedsInput g c =
    still_holds c.args.self.now _ (written _ c.args.key _ c.go_on.new.self
    (sym c.in_ok-connection.ensures.value)) c.go_on.ensures.goes (same_stage c.go_on.ensures.stage)

pub invariant_of-self-in-Over : goal.invariant_of-self-in-Over
invariant_of-self-in-Over g c =
    let at = sym c.in_ok-connection.ensures.value in
    rw c.end.ensures.over (still_holds c.args.self.now _ (written _ c.args.key _ _ at)
    c.go_on.ensures.goes (ends_idle (c.requires.idle _ at) refl))

pub returns-in_err-connection-clause-moves : goal.returns-in_err-connection-clause-moves
returns-in_err-connection-clause-moves g c = ([], [], refl)

pub returns-in-Again : goal.returns-in-Again
returns-in-Again g c =
    let at = sym c.in_ok-connection.ensures.value in
    let there = written c.args.self.now.connections c.args.key _ c.go_on.new.self at in
    let idle = c.go_on.ensures.stage ∙ c.requires.idle _ at in
    let step = then_listed there c.list.new.self.connections (ap enlisted idle)
    c.list.ensures.listed c.list.ensures.others c.list.ensures.count in
    rw c.list.ensures.service (record {
      ended = tt;
      waits = of_new _ step (inl refl);
      turn = of_both _ step c.go_on.ensures.goes;
      under = of_both _ step c.go_on.ensures.under;
      rounds = of_both _ step c.in-Again.ensures.rounds;
      behind = of_new _ step (c.list.ensures.behind c.go_on.new.self there.behind
          ∙ ap (λ s. listed_behind s c.args.key c.args.self.now.listed.items) idle);
      kept = λ b old. ap is_some step.behind;
      moves = moved g.S.Service.gives _ _ _ _ c.go_on.ensures.goes;
      nobody = λ none. absurd (somebody step none);
      unlisted = λ none. absurd (somebody step none);
      others = step.others;
      count = step.count;
    })

pub returns-in-NeedsInput : goal.returns-in-NeedsInput
returns-in-NeedsInput g c =
    let at = sym c.in_ok-connection.ensures.value in
    let step = written c.args.self.now.connections c.args.key _ c.go_on.new.self at in
    let idle = c.go_on.ensures.stage ∙ c.requires.idle _ at in
    record {
      ended = tt;
      waits = of_new _ step (inr (waiting _ _ c.in-NeedsInput.is c.go_on.ensures.stands));
      turn = of_both _ step c.go_on.ensures.goes;
      under = of_both _ step c.go_on.ensures.under;
      rounds = of_both _ step (rw idle (grind (arith, common_steps)));
      behind = of_new _ step (rw idle refl);
      kept = λ b old. ap is_some step.behind;
      moves = moved g.S.Service.gives _ _ _ _ c.go_on.ensures.goes;
      nobody = λ none. absurd (somebody step none);
      unlisted = λ none. refl;
      others = step.others;
      count = step.count;
    }

pub returns-in-Over : goal.returns-in-Over
returns-in-Over g c =
    let over : Connection = record c.go_on.new.self { stage = Over; socket = c.end.new.self.socket } in
    let step = written c.args.self.now.connections c.args.key _ over (sym c.in_ok-connection.ensures.value) in
    rw c.end.ensures.over (record {
      ended = (over, step.behind, (refl, c.end.ensures.peer, rw c.end.ensures.how c.in-Over.ensures.stands));
      waits = tt;
      turn = of_both _ step c.go_on.ensures.goes;
      under = of_both _ step c.go_on.ensures.under;
      rounds = of_both _ step c.in-Over.ensures.rounds;
      behind = of_new _ step refl;
      kept = λ b old. ap is_some step.behind;
      moves = moved g.S.Service.gives _ _ _ _ c.go_on.ensures.goes;
      nobody = λ none. absurd (somebody step none);
      unlisted = λ none. refl;
      others = step.others;
      count = step.count;
    })
