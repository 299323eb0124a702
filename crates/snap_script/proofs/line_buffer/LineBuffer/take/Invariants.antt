use Rattle.std.proofs.Common.{ℕ, List, ◌++◌, take, Option}
use Rattle.snap_script.specs.LineBuffer.{HasTaken}
use Rattle.snap_script.proofs.line_buffer.LineBuffer.take.Given as goal

abbrev pub invariant-loop-byte : goal.invariant-loop-byte
invariant-loop-byte g l =
    (taken : List ℕ) (old : Option (List ℕ)) → HasTaken taken old (g.W.Write.contents l.fn.writer) l.fn.self → HasTaken
    (taken ++ take l.byte-index l.piece) old (g.W.Write.contents l.writer) l.self
