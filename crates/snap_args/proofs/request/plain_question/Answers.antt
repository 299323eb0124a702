use Rattle.std.proofs.Common.{◌≢◌, ◌<◌, None, codes, map, arith, refl, rules}
use Rattle.std.proofs.{lemmas.Nat.pow_pos, Math.Pow.pow-lt, lemmas.Grind.common_steps}
use Rattle.snap_order.specs.declared.order.CallRequest.{CallRequest}
use Rattle.snap_args.proofs.Requests.{four_words, no_get, no_question, two_words}
use Rattle.snap_args.specs.{Requests.IsQuestionOf, Requests.KeepsLimits, declared.fault.WordFault.TheVariants.Memory}
use Rattle.snap_args.proofs.request.plain_question.Goals as goal

pub returns-in_err-segment-in-get : goal.returns-in_err-segment-in-get
returns-in_err-segment-in-get c =
    let two = two_words c.args.words.now _ (codes "get") (omega arith) c.in-get.is-get in
    let none : c.in_err-segment-in-get.field-0.0 ≢ Memory → (q : CallRequest)
    → KeepsLimits q × IsQuestionOf (map (λ w. w.now) c.args.words.now) None None q → ⊥ =
    λ other q is. no_get _ _ two (λ i get. c.in_err-segment-in-get.ensures other i (omega (arith, get.0), get.1)) q
    is.0.2 is.1 in search rules

pub returns-in_ok-segment-in-get : goal.returns-in_ok-segment-in-get
returns-in_ok-segment-in-get c =
    let two = two_words c.args.words.now _ (codes "get") (omega arith) c.in-get.is-get in
    let read = c.in_ok-segment-in-get.ensures in
    let below : c.in_ok-segment-in-get.field-0 < 16 = omega (arith, read.0) in
    ((omega arith, (pow_pos _, pow-lt {j = 16} below), below), ((_, two, read.1), (refl, refl)))

pub returns-in_err-update-in-update : goal.returns-in_err-update-in-update
returns-in_err-update-in-update c =
    let four = four_words c.args.words.now _ (omega arith) c.in-update.is-update in
    grind (arith, four, c.in_err-update-in-update.ensures)

pub returns-in_default : goal.returns-in_default
returns-in_default c = λ other q is. no_question (map (λ w. w.now) c.args.words.now) (grind (arith, common_steps))
    (grind (arith, common_steps)) (grind (arith, common_steps)) (grind (arith, common_steps))
    (grind (arith, common_steps)) c.requires.other (grind (arith, common_steps)) q is.1
