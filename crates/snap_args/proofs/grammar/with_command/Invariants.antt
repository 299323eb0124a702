use Rattle.std.proofs.Common.{◌≡◌, drop, false}
use Rattle.clap.specs.{Words.app_of, Words.new_app, declared.builder.Command.TheViews.out-Command}
use Rattle.snap_args.specs.Tables.{app_with}
use Rattle.snap_args.proofs.grammar.with_command.Given as goal

-- The command so far, with the remaining arguments, is a new one with all arguments. The program is unchanged.
abbrev pub invariant-loop-word : goal.invariant-loop-word
invariant-loop-word l = record {
  words : app_with (app_of l.command) (drop l.word-index l.words) ≡ app_with (new_app l.fn.name) l.fn.words;
  local : (out-Command l.command).has_globals ≡ false;
  program : l.program ≡ l.fn.program;
}
