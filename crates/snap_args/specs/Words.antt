-- The arguments of a command by name, and what it is to read them.
use Rattle.std.specs.Prelude.{◌≢◌, List, [], MatchOption, MatchResult, Option, Result, option_map, unwrap_or}
use Rattle.clap.specs.Words.{Row, Text, all_of, first_of, first_value, found_of, matched_of, raw_values}
use Rattle.clap.specs.declared.{ArgMatches.ArgMatches, parser.matches.Found.Found}
use Rattle.snap_args.specs.declared.fault.WordFault.{WordFault, TheVariants.Memory}

-- P holds of what was read. A fault says that P holds of nothing, or that memory ran out.
abbrev pub Reads : {T : Type 0} → Result T WordFault → (T → Type 0) → Type 0
Reads {T} result P = MatchResult result P (λ why. why ≢ Memory → (x : T) → P x → ⊥)

-- P holds of what was read, and of nothing where that is `None`
abbrev pub Finds : {T : Type 0} → Option T → (T → Type 0) → Type 0
Finds {T} result P = MatchOption result ((x : T) → P x → ⊥) P

-- all arguments of this name that the parser found, in order
abbrev pub all_values : Found → Text → List Text
all_values found what = unwrap_or (option_map raw_values (matched_of found what)) []

-- the argument of this name
abbrev pub word_of : ArgMatches → Text → Option Text
word_of matches what = first_value (found_of matches) what

-- all arguments of this name, in order
abbrev pub words_of : ArgMatches → Text → List Text
words_of matches what = all_values (found_of matches) what

-- the same of the rows of a command line that the grammar takes
abbrev pub word_in : List Row → Text → Option Text
word_in rows what = first_of what rows

abbrev pub words_in : List Row → Text → List Text
words_in rows what = unwrap_or (all_of what rows) []
