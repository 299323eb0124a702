use Rattle.std.proofs.Common.{◌≡◌, ◌<◌, ◌++◌, length, sym, ◌∙◌, ap, arith}
use Rattle.std.proofs.lemmas.Bool.Decides.{nat_tests}
use Rattle.snap_order.proofs.Digits.{digits_on, digits_end, hex_text-some}
use Rattle.snap_order.proofs.hex_text.put_hex.Goals as goal

pub loop-rest-preserved : goal.loop-rest-preserved
loop-rest-preserved c = rw (c.in_ok-put_piece.ensures, c.split_at.ensures.front, c.split_at.ensures.back)
    (digits_on c.loop-rest.out.items c.args.out.now.items c.loop-rest.rest.now _ c.min.result c.loop-rest.invariant)

pub returns : goal.returns
returns c =
    let none : length c.loop-rest.rest.now ≡ 0 = grind (arith, nat_tests) in
    let some : 0 < length c.args.bytes.now = grind (arith, nat_tests) in
    digits_end c.loop-rest.out.items c.args.out.now.items c.loop-rest.rest.now _ none
    c.loop-rest.invariant ∙ ap (λ t. c.args.out.now.items
    ++ t) (sym (hex_text-some c.args.bytes.now some))
