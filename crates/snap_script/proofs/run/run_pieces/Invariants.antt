use Rattle.std.proofs.Common.{◌<◌, length}
use Rattle.snap_script.proofs.Runs.{IsFed}
use Rattle.snap_script.proofs.run.run_pieces.Given as goal

abbrev pub invariant-loop : goal.invariant-loop
invariant-loop g l =
    ((goal.iterator-loop g).can_next l.iterator' × (goal.iterator-loop g).is_finite l.iterator') × (0 < length l.piece)
    × IsFed (g.R.Read.remaining l.fn.reader) (g.R.Read.remaining l.reader) (g.W.Write.contents l.fn.writer)
    (g.W.Write.contents l.writer) l.lines
