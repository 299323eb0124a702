-- How a table of arguments builds a command, and commands build the program.
use Rattle.std.proofs.Common.{◌≡◌, ◌∙◌, ◌+◌, ◌<◌, ℕ, IfOk, List, Result, ap, drop, false, get_or, length, sym}
use Rattle.std.proofs.lemmas.{List.at_drop_more, Result.IfOk-weaker}
use Rattle.std.specs.declared.alloc.AllocError.{AllocError}
use Rattle.clap.specs.Words.{AddsSubcommand, App, Rule, app_of, with_rule, with_subcommand}
use Rattle.clap.specs.declared.builder.Command.{Command, TheViews.out-Command}
use Rattle.snap_args.specs.{Tables.app_with, Tables.rule_in, declared.grammar.Word.Word}

-- a command with one more argument of the table
pub next_word : (app after : App) (words : List Word) (i : ℕ) (d : Word) (rule : Rule)
    → i < length words → rule ≡ rule_in (get_or words i d) → after ≡ with_rule app rule
    → app_with after (drop (i + 1) words) ≡ app_with app (drop i words)
next_word app after words i d rule within is adds =
    ap (λ (a : App). app_with a (drop (i + 1) words)) (adds ∙ ap (with_rule app) is)
    ∙ sym (at_drop_more (app_with app) words i d within)

-- a program with one more command
pub next_command : (r : Result Command AllocError) (old command : Command) (app wanted : App) → app_of old ≡ app
    → app_of command ≡ wanted → (out-Command command).has_globals ≡ false → IfOk r (AddsSubcommand old command)
    → IfOk r (λ all. app_of all ≡ with_subcommand app wanted.top)
next_command r old command app wanted is made local adds = IfOk-weaker r _ _
    (λ all its. its.shape local ∙ ap (λ (a : App). with_subcommand a (app_of command).top) is
    ∙ ap (λ (a : App). with_subcommand app a.top) made) adds
