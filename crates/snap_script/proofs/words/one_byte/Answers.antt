use Rattle.std.proofs.Common.{refl}
use Rattle.snap_script.proofs.Operands.{sized}
use Rattle.snap_script.proofs.words.one_byte.Goals as goal

pub returns-in-Err : goal.returns-in-Err
returns-in-Err c = λ b e. let h =
    (rw (sized c.args.word.now _ 1 refl e) at c.decode_to_slice.ensures.value).0 in let g = c.in-Err.is in cc
