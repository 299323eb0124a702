use Rattle.std.proofs.Common.{ℕ, ◌+◌, ◌≤◌, ◌++◌, length}
use Rattle.snap_register.specs.{Held.held, Words.piece, Steps.LiesAt, Steps.HasSeat, Steps.Drafts}
use Rattle.snap_register.proofs.words.copy_words.Given as goal

abbrev pub invariant-loop-q : goal.invariant-loop-q
invariant-loop-q l = record {
  seated : HasSeat l.seat;
  copied : (j from : ℕ) → LiesAt l.initial.seat.me.0 j from l.source
      → from + l.count ≤ length (held l.initial.seat.me.0 j) → Drafts l.initial.seat l.seat
      (l.initial.seat.me.0.pool.draft ++ piece (held l.initial.seat.me.0 j) from l.q);
}
