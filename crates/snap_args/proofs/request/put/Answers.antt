use Rattle.std.proofs.Common.{◌≢◌, arith, codes, rules}
use Rattle.snap_order.specs.Order.{IsWithin}
use Rattle.snap_order.specs.declared.order.PutOptions.{PutOptions}
use Rattle.snap_order.specs.declared.order.CallRequest.TheVariants as question
use Rattle.snap_args.specs.{Requests.IsPutOf, Words.word_of, declared.fault.WordFault.TheVariants.Memory}
use Rattle.snap_args.proofs.request.put.Goals as goal

pub returns-in_err-segment : goal.returns-in_err-segment
returns-in_err-segment c =
    let of = word_of c.args.matches.now in
    let none : c.in_err-segment.field-0.0 ≢ Memory → (p : PutOptions) → IsWithin (question.Put p)
    × IsPutOf c.args.segment.now (of (codes "value")) (of (codes "after")) p → ⊥ =
    λ other p is. c.in_err-segment.ensures other p.segment (omega (arith, is.1.byte), is.1.segment) in
    search rules
