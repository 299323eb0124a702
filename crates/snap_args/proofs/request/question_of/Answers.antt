use Rattle.std.proofs.Common.{◌≡◌, Bor, List, None, arith, codes, map, ℕ}
use Rattle.std.proofs.lemmas.Grind.{common_steps}
use Rattle.snap_args.specs.Words.{word_of, words_of}
use Rattle.snap_args.proofs.request.question_of.Goals as goal

pub returns-in-None-None : goal.returns-in-None-None
returns-in-None-None c =
    let words : map {A = Bor (List ℕ)} (λ w. w.now) c.unwrap_or-words.result.now
    ≡ words_of c.args.matches.now (codes "request") = grind (arith, common_steps) in
    let value : word_of c.args.matches.now (codes "value") ≡ None = grind (arith, common_steps) in
    let after : word_of c.args.matches.now (codes "after") ≡ None = grind (arith, common_steps) in
    rw (← words, value, after) c.plain_question.ensures

pub returns-in_err-put : goal.returns-in_err-put
returns-in_err-put c = grind (arith, common_steps)

pub returns-in_default : goal.returns-in_default
returns-in_default c = grind (arith, common_steps)

pub returns-then-is : goal.returns-then-is
returns-then-is c = grind (arith, common_steps)

pub plain_question-requires : goal.plain_question-requires
plain_question-requires c = grind (arith, common_steps)
