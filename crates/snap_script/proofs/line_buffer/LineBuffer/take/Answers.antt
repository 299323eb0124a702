use Rattle.std.proofs.Common.{◌≡◌, ℕ, ◌+◌, ◌<◌, List, ◌∷◌, ◌++◌, length, take, drop, get_or, sym, append_assoc}
use Rattle.std.proofs.{Common.take-append-drop, lemmas.List.drop_more}
use Rattle.snap_script.proofs.line_buffer.LineBuffer.take.Goals as goal

-- the bytes up to a place of the piece, the byte there, and all that follows it
piece_cut : (taken piece : List ℕ) (i : ℕ) → i < length piece
    → (taken ++ take i piece) ++ get_or piece i 0 ∷ drop (i + 1) piece ≡ taken ++ piece
piece_cut taken piece i l = rw (append_assoc, ← drop_more piece i 0 l, take-append-drop)

pub returns-in-Err-clause-err : goal.returns-in-Err-clause-err
returns-in-Err-clause-err g c = λ taken left old t.
    rw (sym (piece_cut taken c.args.piece.now c.loop-byte.byte-index c.loop-byte-test.true))
    (c.in-Err.ensures.err _ _ left old (c.loop-byte.invariant taken old t))
