use Rattle.std.proofs.Common.{ℕ, List, subst, sym}
use Rattle.snap_frame.specs.declared.request.Request.{Request}
use Rattle.snap_service.specs.Answers.{Answers, AnswersUpdate}
use Rattle.snap_service.proofs.reads.answer_unstored.Goals as goal

pub returns-in-Some-clause-answer : goal.returns-in-Some-clause-answer
returns-in-Some-clause-answer g c =
    let scanner = c.args.scanner.now in
    let number = c.in-Update.number in
    let reply = c.in-Some.reply in
    let P : List ℕ → Type 0 = λ v. AnswersUpdate scanner c.from-segment.result number v reply scanner in
    let Q : ℕ → Type 0 = λ s. AnswersUpdate scanner s number c.in-Update.value reply scanner in
    let R : Request → Type 0 = λ q. Answers scanner q reply scanner in
    subst R (sym c.in-Update.is)
    (subst Q c.from-segment.ensures (subst P c.as_slice-value.ensures
    (c.in-Some.ensures.refused scanner number (sym c.segments.ensures.count))))
