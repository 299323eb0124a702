use Rattle.std.proofs.Common.{rules, ◌≡◌, ℕ, List, subst}
use Rattle.snap_memory.specs.Rule.{segments}
use Rattle.snap_service.specs.Answers.{AnswersUpdate}
use Rattle.snap_service.proofs.desk.ask.Goals as goal

pub returns-in-Some-clause-answer : goal.returns-in-Some-clause-answer
returns-in-Some-clause-answer g c =
    let P : List ℕ → Type 0 = λ v. AnswersUpdate c.args.scanner.now c.args.segment c.args.number v
    c.in-Some.reply c.args.scanner.now in
    let count : segments c.args.scanner.now.plan ≡ c.len.result = search rules in
    subst P c.as_slice.ensures (c.in-Some.ensures.refused c.args.scanner.now c.args.number count)
