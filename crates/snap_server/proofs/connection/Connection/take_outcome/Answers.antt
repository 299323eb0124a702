use Rattle.std.proofs.Common.{None}
use Rattle.snap_session.proofs.TurnRuns.{begins, then_answers}
use Rattle.snap_server.proofs.connection.Connection.take_outcome.Goals as goal
use Rattle.snap_server.proofs.connection.Connection.take_outcome.Goals.{then-is_none, else-is_none}

pub returns-clause-goes : goal.returns-clause-goes
returns-clause-goes g c = elim c.if-is_none.branch [
  | then-is_none w ↦
      rw w.self-is (rw w.service-is (then_answers g.S.Service.gives _ _ _ _ _ _ None None None None
      (begins g.S.Service.gives _ _ None None) w.finish.ensures.goes))
  | else-is_none w ↦ rw w.self-is (rw w.service-is (begins g.S.Service.gives _ _ None None))
]
