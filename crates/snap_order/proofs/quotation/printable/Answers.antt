use Rattle.std.{proofs.Common.◌∙◌, proofs.Common.sym, specs.Str.is_utf8}
use Rattle.std.proofs.lemmas.{Bool.false_from_ne_true, Str.IsUtf8-from_is_utf8, Str.is_utf8-from_IsUtf8}
use Rattle.snap_order.proofs.quotation.printable.Goals as goal

pub returns-in-Ok-clause-is : goal.returns-in-Ok-clause-is
returns-in-Ok-clause-is c =
    let plain = sym c.are_plain.ensures ∙ c.if-not-are_plain.false in
    rw (plain, is_utf8-from_IsUtf8 c.args.value.now c.in-Ok.ensures.cases.1)

pub returns-in-Err-clause-is : goal.returns-in-Err-clause-is
returns-in-Err-clause-is c =
    let value = c.args.value.now in
    let plain = sym c.are_plain.ensures ∙ c.if-not-are_plain.false in
    rw (plain, false_from_ne_true (is_utf8 value) (λ t. c.in-Err.ensures.cases.0 (IsUtf8-from_is_utf8 value t)))
