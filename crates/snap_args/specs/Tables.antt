-- The grammar that the tables of arguments describe.
use Rattle.std.specs.Prelude.{List, Some, [], ◌∷◌}
use Rattle.clap.specs.Words.{App, Rule, Text, new_app, new_rule, with_rule}
use Rattle.snap_args.specs.Grammar.{choice_rule, flag_rule, free_number_rule, free_words_rule, large_number_rule}
use Rattle.snap_args.specs.Grammar.{number_rule, text_rule, texts_rule, word_rule, words_rule}
use Rattle.snap_args.specs.declared.grammar.{Word.Word, ArgumentKind.ArgumentKind}
use Rattle.snap_args.specs.declared.grammar.ArgumentKind.TheVariants as kind

-- the rule of an argument that is only shown as one of this kind and name
abbrev pub shown_rule : ArgumentKind → Text → Rule
shown_rule kind.Needed name = record (new_rule name) { value_names = 1 }
shown_rule kind.NeededMany name = record (new_rule name) { value_names = 1 }
shown_rule kind.Many name = record (new_rule name) { value_names = 1 }
shown_rule kind.Flag name = record (new_rule name) { long = Some name }
shown_rule kind name = text_rule name

-- the rule of an argument of this kind and name
abbrev pub rule_of_kind : ArgumentKind → Text → Rule
rule_of_kind kind.Needed name = word_rule name
rule_of_kind kind.NeededMany name = words_rule name
rule_of_kind kind.Many name = free_words_rule name
rule_of_kind kind.Flag name = flag_rule name
rule_of_kind kind.Text name = text_rule name
rule_of_kind kind.Texts name = texts_rule name
rule_of_kind (kind.Choice default) name = choice_rule name default.now
rule_of_kind (kind.Number default) name = number_rule name default.now
rule_of_kind kind.FreeNumber name = free_number_rule name
rule_of_kind kind.LargeNumber name = large_number_rule name

-- the rule of an argument
abbrev pub rule_in : Word → Rule
rule_in word = rule_of_kind word.kind word.name.now

-- a command with these arguments added
abbrev pub app_with : App → List Word → App
app_with app [] = app
app_with app (word ∷ words) = app_with (with_rule app (rule_in word)) words

-- a command of this name with these arguments
abbrev pub command_with : Text → List Word → App
command_with name words = app_with (new_app name) words
