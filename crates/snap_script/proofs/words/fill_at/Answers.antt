use Rattle.snap_script.proofs.Operands.{second_same}
use Rattle.snap_script.proofs.words.fill_at.Goals as goal

pub returns-in-None : goal.returns-in-None
returns-in-None c = λ o h bs p e n x. (rw c.in-None.is at c.in_ok-bytes.ensures) bs
    (rw (second_same e c.in-Some.ensures) at x)
