use Rattle.std.proofs.Common.{arith, sym, ap, ◌∙◌, true≢false}
use Rattle.snap_server.proofs.Step.{written, same_stage}
use Rattle.snap_server.proofs.TurnList.{lists_more, lists_room, enlisted_same}
use Rattle.snap_server.proofs.SharedService.{turned_are, no_turn, still_holds}
use Rattle.snap_server.specs.{declared.connection.Connection.Connection, TurnList.enlisted}
use mathlib.Core.Logic.{∥∥₁_map}
use Rattle.snap_server.proofs.sessions.Sessions.list.Goals as goal

pub push_back_reserved-requires : goal.push_back_reserved-requires
push_back_reserved-requires g c =
    let step = written c.args.self.now.connections c.args.key _ c.enlist.new.self (sym c.in-Some.ensures.value) in
    let idle = c.enlist.ensures.idle.0 c.if-enlist.true in
    omega (
      arith,
      c.args.self.now.listed.ok.0,
      lists_room c.args.self.now.listed.items c.args.key _ c.args.self.now.listed.cap
          (omega (arith, c.args.self.now.room, step.count)) (∥∥₁_map c.args.self.now.lists
          (lists_more _ step idle (ap (λ (z : Connection). z.stage) c.enlist.ensures.listed ∙ ap enlisted idle))),
    )

pub invariant_of-self-then-enlist : goal.invariant_of-self-then-enlist
invariant_of-self-then-enlist g c =
    let step = written c.args.self.now.connections c.args.key _ c.enlist.new.self (sym c.in-Some.ensures.value) in
    let idle = c.enlist.ensures.idle.0 c.if-enlist.true in
    record {
      are = ∥∥₁_map c.args.self.now.are (turned_are g.S.Service.gives _ _ step (no_turn g.S.Service.gives _ _ _
          (ap (λ (z : Connection). z.session) c.enlist.ensures.listed)));
      lists = rw c.push_back_reserved.ensures.items (∥∥₁_map c.args.self.now.lists
          (lists_more _ step idle (ap (λ (z : Connection). z.stage) c.enlist.ensures.listed ∙ ap enlisted idle)));
      room = omega (arith, c.args.self.now.room, c.push_back_reserved.ensures.capacity, step.count);
    }

pub invariant_of-self-else-enlist : goal.invariant_of-self-else-enlist
invariant_of-self-else-enlist g c =
    still_holds c.args.self.now _ (written _ c.args.key _ c.enlist.new.self (sym c.in-Some.ensures.value))
    (no_turn g.S.Service.gives _ _ _ (ap (λ (z : Connection). z.session) c.enlist.ensures.listed))
    (same_stage (ap (λ (z : Connection). z.stage) c.enlist.ensures.listed ∙ enlisted_same _
    (λ idle. true≢false (sym (c.enlist.ensures.idle.1 idle) ∙ c.if-enlist.false))))
