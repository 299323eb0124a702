use Rattle.std.proofs.Common.{sym}
use Rattle.snap_server.proofs.{SharedService.removed_are, Step.over_off, TurnList.lists_removed}
use mathlib.Core.Logic.{∥∥₁_map}
use Rattle.snap_server.proofs.sessions.Sessions.let_go.Goals as goal

pub invariant_of-self-clause-are : goal.invariant_of-self-clause-are
invariant_of-self-clause-are g c = ∥∥₁_map c.args.self.now.are
    (removed_are g.S.Service.gives _ _ _ c.args.key c.try_remove.ensures.updates)

pub invariant_of-self-clause-lists : goal.invariant_of-self-clause-lists
invariant_of-self-clause-lists g c = ∥∥₁_map c.args.self.now.lists
    (lists_removed _ _ _ c.args.key c.in-Some.connection.now (sym c.in-Some.ensures)
    (over_off _ (c.is_over.ensures.0 c.if-is_over.true)) c.try_remove.ensures.updates)
