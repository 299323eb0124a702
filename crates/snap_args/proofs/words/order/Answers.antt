use Rattle.std.proofs.Common.{arith, ◌∙◌, ap, map, subst, sym}
use Rattle.std.proofs.lemmas.Grind.{common_steps}
use Rattle.clap.specs.Words.{App, HasKind, fault_of, is_simple_and_free}
use Rattle.snap_args.proofs.Asked.{command_met, meant, no_fault, simple_and_free, told}
use Rattle.snap_args.specs.Grammar.{grammar_of}
use Rattle.snap_args.proofs.words.order.Goals as goal

pub returns-in-Err : goal.returns-in-Err
returns-in-Err g c =
    let words = map g.S.AsStr.text c.args.words.now in
    let kind = subst (λ (a : App). HasKind (fault_of a words) c.in-Err.error) c.in-Ok.ensures
    (c.in-Err.ensures.kinds (ap is_simple_and_free c.in-Ok.ensures ∙ simple_and_free)) in
    let is = c.fault_of.ensures.fault in record {
      limits = tt;
      read = λ other o means. no_fault _ c.in-Err.error c.fault_of.result kind means.taken is other;
      told = λ _. told words c.in-Err.error c.fault_of.result is kind;
    }

pub returns : goal.returns
returns g c =
    let words = map g.S.AsStr.text c.args.words.now in
    let parsed = c.in-Ok-try_get_matches_from.ensures in
    let taken = sym (ap (λ (a : App). fault_of a words) c.in-Ok.ensures)
    ∙ parsed.kinds (ap is_simple_and_free c.in-Ok.ensures ∙ simple_and_free) in
    let command = command_met words _ c.in-Ok.ensures c.in-Ok-try_get_matches_from.matches c.in-Some.matches.now
    parsed.matches c.in-Some.command.now c.in-Some.ensures.name c.in-Some.ensures.rows in
    let read = meant words c.in-Some.command.now c.in-Some.matches.now taken command c.order_of.result
    c.order_of.ensures in record { limits = read.0; read = read.1; told = λ some. absurd (some taken) }

pub returns-in_default-subcommand-clause-read : goal.returns-in_default-subcommand-clause-read
unfolding grammar_of
returns-in_default-subcommand-clause-read g c = grind (arith, common_steps)

pub returns-in_default-subcommand-clause-told : goal.returns-in_default-subcommand-clause-told
unfolding grammar_of
returns-in_default-subcommand-clause-told g c = grind (arith, common_steps)
