use Rattle.std.proofs.Common.{◌≢◌, ◌<◌, ◌≤◌, ◌^◌, ℕ, IfSome, None, Option, Some, arith, rules}
use Rattle.snap_order.specs.Order.{KeepsLimits}
use Rattle.snap_order.specs.declared.order.ServeOptions.{ServeOptions}
use Rattle.snap_args.specs.{Orders.IsServiceOf, Words.word_of, Words.words_of}
use Rattle.snap_args.specs.declared.fault.WordFault.TheVariants.{Memory}
use Rattle.snap_args.proofs.serve.service_of.Goals as goal

-- a number of 64 bits is at most the highest of them
at_most : (k : Option ℕ) → IfSome k (λ n. n < 2 ^ 64) → IfSome k (λ n. n ≤ 18446744073709551615)
at_most None large = tt
at_most (Some n) large = omega (arith, large)

pub returns-in_err-mode_of-clause-read : goal.returns-in_err-mode_of-clause-read
returns-in_err-mode_of-clause-read c =
    let none : c.in_err-mode_of.field-0.0 ≢ Memory → (s : ServeOptions) → KeepsLimits s
    × IsServiceOf (word_of c.args.matches.now) (words_of c.args.matches.now) s → ⊥ =
    λ other s is. c.in_err-mode_of.ensures other s.socket_mode (is.0.mode, is.1.mode) in
    search rules

pub returns-in_err-large_number_of-clause-read : goal.returns-in_err-large_number_of-clause-read
returns-in_err-large_number_of-clause-read c =
    let none : c.in_err-large_number_of.field-0.0 ≢ Memory → (s : ServeOptions) → KeepsLimits s
    × IsServiceOf (word_of c.args.matches.now) (words_of c.args.matches.now) s → ⊥ =
    λ other s is. c.in_err-large_number_of.ensures other s.connections
    (at_most s.connections is.1.large, is.1.connections) in
    search rules
