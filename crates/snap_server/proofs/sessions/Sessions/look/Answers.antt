use Rattle.std.proofs.Common.{sym, ◌∙◌, refl, rules}
use Rattle.snap_server.proofs.Step.{written, of_both, same_stage, ends_idle}
use Rattle.snap_server.proofs.SharedService.{no_turn, still_holds}
use Rattle.snap_server.specs.declared.connection.{Connection.Connection, ConnectionState.TheVariants.Over}
use Rattle.snap_server.proofs.sessions.Sessions.look.Goals as goal

pub invariant_of-self-in-Break-branch-2 : goal.invariant_of-self-in-Break-branch-2
invariant_of-self-in-Break-branch-2 g c =
    still_holds c.args.self.now _ (written _ c.args.key _ c.look.new.self (sym c.in_ok-connection.ensures.value))
    (no_turn g.S.Service.gives _ _ _ c.look.ensures.session) (same_stage c.look.ensures.stage)

pub invariant_of-self-2 : goal.invariant_of-self-2
invariant_of-self-2 g c =
    let idle = c.look.ensures.idle (search rules) in
    rw c.end.ensures.over (still_holds c.args.self.now _
    (written _ c.args.key _ _ (sym c.in_ok-connection.ensures.value))
    (no_turn g.S.Service.gives _ _ _ c.look.ensures.session)
    (ends_idle (sym c.look.ensures.stage ∙ idle) refl))

pub returns : goal.returns
returns g c =
    let over : Connection = record c.look.new.self { stage = Over; socket = c.end.new.self.socket } in
    let step = written c.args.self.now.connections c.args.key _ over (sym c.in_ok-connection.ensures.value) in
    rw c.end.ensures.over (record {
      service = refl;
      ended = (over, step.behind, (refl, c.end.ensures.peer, rw c.end.ensures.how c.in_ok-how.ensures.may));
      session = of_both _ step c.look.ensures.session;
      stays = tt;
      order = refl;
      others = step.others;
      count = step.count;
    })
