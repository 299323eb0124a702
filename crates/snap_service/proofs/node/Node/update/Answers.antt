use Rattle.std.proofs.Common.{subst, sym}
use Rattle.snap_register.specs.Seat.{Known}
use Rattle.snap_service.specs.{Answers.AnswersUpdate, Counted.NodeState}
use Rattle.snap_service.proofs.node.Node.update.Goals as goal

pub returns-in-Some-clause-answer : goal.returns-in-Some-clause-answer
returns-in-Some-clause-answer g c =
    let P : Known → Type 0 = λ a.
    AnswersUpdate a c.args.segment c.args.number c.args.value.now c.in-Some.reply a in
    let Q : NodeState → Type 0 = λ n. P n.scanner in
    subst Q c.self.view_is (subst P c.scanner.ensures (c.in-Some.ensures.refused c.scanner.result.now c.args.number
    (sym c.segments.ensures.count)))
