use Rattle.std.proofs.Common.{length}
use Rattle.snap_session.{specs.Turns.WholeRounds, proofs.Rounds.scene, proofs.TurnRuns.Stood}
use Rattle.snap_session.proofs.turns.proceed.Given as goal

abbrev pub invariant-loop : goal.invariant-loop
invariant-loop g l = record {
  stood : Stood g.S.Service.gives g.S.Service.hands_over (g.S.Service.hands_over_under l.fn.key)
      (length l.fn.piece) l.fn.service l.service l.fn.session l.session
      (g.R.Read.remaining l.fn.reader) (g.R.Read.remaining l.reader)
      (g.W.Write.contents l.fn.writer) (g.W.Write.contents l.writer);
  rounds : WholeRounds g.S.Service.gives (length l.fn.piece) l.counter
      (scene l.fn.service l.fn.session (g.R.Read.remaining l.fn.reader)
      (g.W.Write.contents l.fn.writer))
      (scene l.service l.session (g.R.Read.remaining l.reader) (g.W.Write.contents l.writer));
}
