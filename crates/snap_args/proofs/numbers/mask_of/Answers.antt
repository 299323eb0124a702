use Rattle.std.proofs.Common.{◌≡◌, ◌≢◌, ◌∙◌, get_or, arith, inl, inr, sym}
use Rattle.std.proofs.lemmas.Bool.Decides.{nat_tests}
use Rattle.snap_args.proofs.Masks.{always_read, mask_read, no_mask}
use Rattle.snap_args.proofs.numbers.mask_of.Goals as goal
use Rattle.snap_args.proofs.numbers.mask_of.Goals.{then-word-ne-MASK_LEN-via-then-word-ne-MASK_LEN}
use Rattle.snap_args.proofs.numbers.mask_of.Goals.{then-word-ne-MASK_LEN-via-else-word-ne-MASK_LEN+then-starts_with}

pub returns-then-word-ne-MASK_LEN : goal.returns-then-word-ne-MASK_LEN
returns-then-word-ne-MASK_LEN c = elim c.then-word-ne-MASK_LEN.branch [
  | then-word-ne-MASK_LEN-via-then-word-ne-MASK_LEN w ↦
      no_mask c.args.word.now (inl w.if-word-ne-MASK_LEN.true)
  | then-word-ne-MASK_LEN-via-else-word-ne-MASK_LEN+then-starts_with w ↦
      let tested = w.starts_with.ensures.byte (omega arith) (omega arith) (λ w o h. h) in
      let plus : get_or c.args.word.now 0 0 ≡ 43 = grind (arith, nat_tests, sym tested ∙ w.if-starts_with.true) in
      no_mask c.args.word.now (inr plus)
]

pub returns-in-Ok : goal.returns-in-Ok
returns-in-Ok c =
    let tested = c.starts_with.ensures.byte (omega arith) (omega arith) (λ w o h. h) in
    let none : get_or c.args.word.now 0 0 ≢ 43 = grind (arith, nat_tests, sym tested ∙ c.if-starts_with.false) in
    let read = c.in-Ok.ensures.value in
    mask_read c.args.word.now c.in-Ok.bits c.if-word-ne-MASK_LEN.false none read.0.0 read.1

pub returns-in-Err : goal.returns-in-Err
returns-in-Err c =
    let tested = c.starts_with.ensures.byte (omega arith) (omega arith) (λ w o h. h) in
    let none : get_or c.args.word.now 0 0 ≢ 43 = grind (arith, nat_tests, sym tested ∙ c.if-starts_with.false) in
    λ bits is. c.in-Err.ensures.value (always_read c.args.word.now bits none is)
