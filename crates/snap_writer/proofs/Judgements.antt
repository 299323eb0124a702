-- Exactly one rule applies to an update.
use Rattle.std.proofs.Common.{rules, ◌≡◌, ℕ, ◌+◌, List, length, Option, Some, None, refl, arith}
use Rattle.snap_history.specs.declared.limits.TheConstants.{MAX_VALUE_LEN, LAST_NUMBER}
use Rattle.snap_history.specs.Limits.{IsNumber, IsShort}
use Rattle.snap_memory.specs.Looks.{most_looks}
use Rattle.snap_register.specs.Rule.{segments}
use Rattle.snap_writer.specs.Writer.{WriterState, number_of, value_of}
use Rattle.snap_writer.specs.declared.judgement.Judgement.TheVariants.{TooLong, Stored, Conflict, OutOfStep, Exhausted}
use Rattle.snap_writer.specs.declared.judgement.Judgement.TheVariants.{Fenced, Worn, Go}
use Rattle.snap_writer.specs.{Judge.IsNext, Judge.IsJudged, declared.judgement.Judgement.Judgement}
use mathlib.Core.Logic.{dite}
use mathlib.Core.List.{List-discrete}
use native.Mathlib.Decide.{dec_le, ℕ_discrete}

module _ {D : Type 0} (w : WriterState D) (k : ℕ) (v : List ℕ) where
  abbrev Ruled : Type 0
  Ruled = (rule : Judgement) × IsJudged w k v rule

  next_ruled : (begun : Option (List ℕ)) → w.segment.begun ≡ begun → IsNext w k v → IsNumber k → Ruled
  next_ruled (Some x) is next number = (Fenced, (next, number, search rules))
  next_ruled None is next number = dite (dec_le (most_looks (segments w.seat.plan)) w.seat.left)
      (λ enough. (Go, (next, number, is, enough))) (λ few. (Worn, (next, number, is, omega arith)))

  short_ruled : IsNumber (number_of w) → IsShort v → Ruled
  short_ruled low short = dite (ℕ_discrete k (number_of w)) (λ same. dite (List-discrete ℕ_discrete v (value_of w))
      (λ again. (Stored, (short, same, again))) (λ other. (Conflict, (short, same, other))))
      (λ new. dite (ℕ_discrete k (number_of w + 1)) (λ next. dite (ℕ_discrete (number_of w) LAST_NUMBER)
      (λ last. (Exhausted, ((short, next), last)))
      (λ more. next_ruled w.segment.begun refl (short, next) (omega arith))) (λ far. (OutOfStep, (short, new, far))))

  pub some_rule : IsNumber (number_of w) → Ruled
  some_rule low = dite (dec_le (length v) MAX_VALUE_LEN) (λ short. short_ruled low short)
      (λ long. (TooLong, omega arith))

  pub one_rule : (a b : Judgement) → IsJudged w k v a → IsJudged w k v b → a ≡ b
  one_rule a b is also = search rules
