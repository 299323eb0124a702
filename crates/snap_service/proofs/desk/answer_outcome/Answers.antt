use Rattle.std.proofs.Common.{arith, sym}
use Rattle.snap_service.specs.Answers.AnswersUpdate.{Settled}
use Rattle.snap_service.proofs.desk.answer_outcome.Goals as goal

pub returns-then-is_there-clause-answer : goal.returns-then-is_there-clause-answer
returns-then-is_there-clause-answer g c =
    let is = c.if-is_its.true in
    let there = c.if-is_there.true in
    let count = c.segments-count.ensures.count in
    let same = c.is_of-is_its.ensures.yes is in
    Settled (omega arith) (c.is_of-is_its.ensures.short is)
    (c.tell.ensures.settled _ _ _ same.0 same.1 same.2) c.tell.ensures.scanner.grows

pub returns-in-Some-clause-answer : goal.returns-in-Some-clause-answer
returns-in-Some-clause-answer g c = c.in-Some.ensures.refused c.args.scanner.now c.args.number
    (sym c.segments-count.ensures.count)
