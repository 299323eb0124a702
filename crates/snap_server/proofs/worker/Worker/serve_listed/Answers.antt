use Rattle.std.proofs.Common.{◌+◌, ◌<◌, ◌≡◌, ◌++◌, length, get_or, drop, arith}
use Rattle.snap_server.specs.declared.connection.TheConstants.{PIECE}
use Rattle.snap_server.proofs.Round.{no_turn_yet, next_first, one_turn_more, round_done}
use Rattle.snap_server.proofs.worker.Worker.serve_listed.Goals as goal

pub round-init : goal.round-init
round-init g c = no_turn_yet g.S.Service.gives PIECE c.args.self.now.sessions.listed.items
    c.args.self.now.sessions.service c.args.self.now.sessions.connections

pub round-preserved : goal.round-preserved
round-preserved g c =
    let keys = c.args.self.now.sessions.listed.items in
    let i = c.round.counter in
    let round = c.round.invariant in
    let more : i < length keys = omega (
      arith,
      c.round-test.true,
      c.len-end.ensures,
      c.args.self.now.sessions.listed.ok.0,
    ) in
    let first = next_first g.S.Service.gives PIECE keys i _ _ _ _ _ round more in
    let rest = drop (i + 1) keys ++ round.again in
    one_turn_more g.S.Service.gives PIECE keys i _ _ _ c.args.self.now.sessions.connections
    c.round.self.sessions.connections c.serve_next.new.self.sessions.connections
    c.round.self.sessions.listed.items c.serve_next.new.self.sessions.listed.items round more
    c.args.self.now.sessions.lists (c.serve_next.ensures.turn (get_or keys i 0) rest first)
    c.serve_next.ensures.moves (c.serve_next.ensures.order (get_or keys i 0) rest first)

pub returns-clause-turns : goal.returns-clause-turns
returns-clause-turns g c = λ key b d old new.
    let whole : c.round.counter ≡ length c.args.self.now.sessions.listed.items = omega (
      arith,
      c.round-test.false,
      c.round.auto.counter-end,
      c.len-end.ensures,
      c.args.self.now.sessions.listed.ok.0,
    ) in
    round_done g.S.Service.gives PIECE c.args.self.now.sessions.listed.items c.round.counter _ _
    c.args.self.now.sessions.connections c.round.self.sessions.connections
    c.round.self.sessions.listed.items c.round.invariant whole c.args.self.now.sessions.lists key
    b d old new
