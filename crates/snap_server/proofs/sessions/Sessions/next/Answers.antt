use Rattle.std.proofs.Common.{arith, sym, ap, subst, ◌∷◌, ◌≡◌, List, ℕ}
use Rattle.snap_server.proofs.Step.{written}
use Rattle.snap_server.proofs.TurnList.{lists_rest, none_first}
use Rattle.snap_server.proofs.SharedService.{turned_are, no_turn}
use Rattle.snap_server.specs.{declared.connection.Connection.Connection, TurnList.Lists}
use mathlib.Core.Logic.{∥∥₁_map}
use Rattle.snap_server.proofs.sessions.Sessions.next.Goals as goal

pub invariant_of-self-in-Some : goal.invariant_of-self-in-Some
invariant_of-self-in-Some g c =
    let step = written c.args.self.now.connections c.in_ok-key.key _ c.delist.new.self (sym c.in-Some.ensures.value) in
    record {
      are = ∥∥₁_map c.args.self.now.are (turned_are g.S.Service.gives _ _ step
          (no_turn g.S.Service.gives _ _ _ (ap (λ (z : Connection). z.session) c.delist.ensures)));
      lists = ∥∥₁_map c.args.self.now.lists (λ lists. lists_rest _ step
          (ap (λ (z : Connection). z.stage) c.delist.ensures)
          (subst (λ (keys : List ℕ). Lists keys c.args.self.now.connections) c.in_ok-key.ensures.items lists));
      room = omega (arith, c.args.self.now.room, c.pop_front.ensures.capacity, step.count);
    }

pub invariant_of-self-in_default-clause-lists : goal.invariant_of-self-in_default-clause-lists
invariant_of-self-in_default-clause-lists g c =
    let items : c.args.self.now.listed.items ≡ c.in_ok-key.key ∷ c.pop_front.new.self.items =
    c.in_ok-key.ensures.items in
    ∥∥₁_map c.args.self.now.lists (λ lists.
    absurd (none_first c.in_ok-key.key _ c.args.self.now.connections
    (subst (λ (keys : List ℕ). Lists keys c.args.self.now.connections) items lists)
    (sym c.in_default.ensures.value)))
