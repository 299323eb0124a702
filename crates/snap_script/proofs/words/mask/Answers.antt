use Rattle.std.proofs.Common.{refl}
use Rattle.snap_script.proofs.Operands.{sized}
use Rattle.snap_script.proofs.words.mask.Goals as goal

pub returns-in-Err : goal.returns-in-Err
returns-in-Err c = λ set is. let h =
    (rw (sized c.args.word.now _ 2 refl is.2) at c.decode_to_slice.ensures.value).0 in let g = c.in-Err.is in cc
