use Rattle.std.proofs.Common.{None, ◌≡◌}
use Rattle.snap_session.specs.{Talk.Stays, Talk.start, Turns.Turns}
use Rattle.snap_session.proofs.turns.serve.Given as goal

abbrev pub invariant-loop : goal.invariant-loop
invariant-loop g l = ((goal.iterator-loop g).can_next l.iterator' × (goal.iterator-loop g).is_finite l.iterator')
    × Turns Stays g.S.Service.gives l.fn.service l.service start (g.R.Read.remaining l.fn.reader)
    (g.R.Read.remaining l.reader) (g.W.Write.contents l.fn.writer) (g.W.Write.contents l.writer) l.session
    × (l.session.asked ≡ None)
