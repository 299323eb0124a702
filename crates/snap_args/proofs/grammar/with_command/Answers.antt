use Rattle.std.proofs.Common.{◌≡◌, ◌∙◌, IfOk, arith, subst, sym}
use Rattle.std.proofs.lemmas.List.{at_drop_all}
use Rattle.clap.specs.Words.{app_of}
use Rattle.snap_args.{specs.Tables.app_with, proofs.Tables.next_command, proofs.Tables.next_word}
use Rattle.snap_args.proofs.grammar.with_command.Goals as goal

pub loop-word-preserved : goal.loop-word-preserved
loop-word-preserved c =
    let adds = c.in-Ok.ensures in
    let kept = c.loop-word.invariant in
    let arg = c.arg_of.ensures in
    record {
      words = next_word _ _ c.args.words.now c.loop-word.word-index _ _ (omega arith) arg.0 (adds.shape arg.1)
          ∙ kept.words;
      local = rw (kept.local, arg.1) at adds.globals;
      program = kept.program;
    }

pub returns : goal.returns
returns c = λ app wanted made is.
    let kept = c.loop-word.invariant in
    let whole : app_of c.loop-word.command ≡ wanted =
    sym (at_drop_all (app_with (app_of c.loop-word.command)) c.args.words.now c.loop-word.word-index (omega arith))
    ∙ kept.words ∙ is in
    let given : app_of c.in_ok-program.field-0 ≡ app =
    subst (λ o. IfOk o (λ all. app_of all ≡ app)) (sym kept.program ∙ c.in_ok-program.was) made in
    next_command c.subcommand.result _ c.loop-word.command app wanted given whole kept.local c.subcommand.ensures
