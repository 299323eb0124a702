use Rattle.std.proofs.Common.{◌≡◌, ◌≢◌, ℕ, IfSome, None, Option, Some, codes, rules}
use Rattle.clap.specs.Words.{Text}
use Rattle.snap_order.specs.{Limits.MAX_COUNT, Order.IsOneTo}
use Rattle.snap_args.specs.Numbers.{IsLargeNumberOf, IsNumberOf}
use Rattle.snap_args.specs.{Words.word_of, declared.fault.WordFault.TheVariants.Memory}
use Rattle.snap_args.proofs.dump.free_count_of.Goals as goal

-- an argument that is given and is no count is none of an option either
no_count : (word : Text) (w : Option Text) → Some word ≡ w → ((n : ℕ) → IsOneTo MAX_COUNT n × IsNumberOf w n → ⊥)
    → (count : Option ℕ) → IfSome count (IsOneTo MAX_COUNT) × IsLargeNumberOf w count → ⊥
no_count word None given none count is = absurd (cc)
no_count word (Some w) given none None is = is.1
no_count word (Some w) given none (Some n) is = none n is

pub returns-in_err-count_of : goal.returns-in_err-count_of
returns-in_err-count_of c =
    let none : c.in_err-count_of.field-0.0 ≢ Memory → (count : Option ℕ) → IfSome count (IsOneTo MAX_COUNT)
    × IsLargeNumberOf (word_of c.args.matches.now (codes "count")) count → ⊥ =
    λ other count is. no_count _ _ c.in-Some.ensures (c.in_err-count_of.ensures other) count is in
    search rules
