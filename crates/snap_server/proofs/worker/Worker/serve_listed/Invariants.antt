use Rattle.snap_server.{specs.declared.connection.TheConstants.PIECE, proofs.Round.IsRound}
use Rattle.snap_server.proofs.worker.Worker.serve_listed.Given as goal

abbrev pub invariant-round : goal.invariant-round
invariant-round g l = IsRound g.S.Service.gives PIECE l.fn.self.sessions.listed.items l.counter
    l.fn.self.sessions.service l.self.sessions.service l.fn.self.sessions.connections
    l.self.sessions.connections l.self.sessions.listed.items
