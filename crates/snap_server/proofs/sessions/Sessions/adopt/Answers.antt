use Rattle.snap_server.proofs.SharedService.{added_are, same_are}
use Rattle.snap_server.proofs.TurnList.{lists_added, lists_same}
use mathlib.Core.Logic.{∥∥₁_map}
use Rattle.snap_server.proofs.sessions.Sessions.adopt.Goals as goal

pub invariant_of-self-then-is_err-2-clause-are : goal.invariant_of-self-then-is_err-2-clause-are
invariant_of-self-then-is_err-2-clause-are g c = ∥∥₁_map c.args.self.now.are
    (same_are g.S.Service.gives _ _ _ c.reserve-else-is_err.ensures.rest_kept)

pub invariant_of-self-then-is_err-2-clause-lists : goal.invariant_of-self-then-is_err-2-clause-lists
invariant_of-self-then-is_err-2-clause-lists g c = rw c.reserve.ensures.items
    (∥∥₁_map c.args.self.now.lists (lists_same _ _ _ c.reserve-else-is_err.ensures.rest_kept))

pub invariant_of-self-then-is_err-3-clause-are : goal.invariant_of-self-then-is_err-3-clause-are
invariant_of-self-then-is_err-3-clause-are g c = ∥∥₁_map c.args.self.now.are
    (same_are g.S.Service.gives _ _ _ c.reserve-else-is_err.ensures.rest_kept)

pub invariant_of-self-then-is_err-3-clause-lists : goal.invariant_of-self-then-is_err-3-clause-lists
invariant_of-self-then-is_err-3-clause-lists g c = rw c.reserve.ensures.items
    (∥∥₁_map c.args.self.now.lists (lists_same _ _ _ c.reserve-else-is_err.ensures.rest_kept))

pub invariant_of-self-2-clause-are : goal.invariant_of-self-2-clause-are
invariant_of-self-2-clause-are g c = ∥∥₁_map c.args.self.now.are (λ are.
    added_are g.S.Service.gives _ c.reserve-else-is_err.new.self c.insert_reserved.new.self c.insert_reserved.result
    c.new-connection.result c.insert_reserved.ensures.updates c.new-connection.ensures.session
    (same_are g.S.Service.gives _ _ _ c.reserve-else-is_err.ensures.rest_kept are))

pub invariant_of-self-2-clause-lists : goal.invariant_of-self-2-clause-lists
invariant_of-self-2-clause-lists g c = rw c.reserve.ensures.items (∥∥₁_map c.args.self.now.lists (λ lists.
    lists_added _ c.reserve-else-is_err.new.self c.insert_reserved.new.self c.insert_reserved.result
    c.new-connection.result c.insert_reserved.ensures.was_vacant c.new-connection.ensures.stage
    c.insert_reserved.ensures.updates (lists_same _ _ _ c.reserve-else-is_err.ensures.rest_kept lists)))
