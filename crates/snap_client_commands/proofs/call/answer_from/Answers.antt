use Rattle.std.proofs.Common.{◌≡◌, ◌*◌, ◌%◌, ◌^◌, ◌<◌, arith}
use Rattle.std.proofs.Math.Pow.{shl_exact}
use Rattle.snap_client_commands.proofs.call.answer_from.Goals as goal

pub returns-in-Request : goal.returns-in-Request
returns-in-Request g c = rw c.in-Request.is c.answer_to.ensures

pub returns-in-Get : goal.returns-in-Get
returns-in-Get g c =
    let segment = c.in-Get.segment in
    let small : segment < 16 = rw c.in-Get.is at c.requires.within in
    let bit : 1 * 2 ^ segment % 2 ^ 16 ≡ 2 ^ segment =
    grind (arith, shl_exact {a = 1} 1 segment 16 (omega arith) (omega (arith, small))) in
    rw (c.in-Get.is, ← bit) c.answer_to-in-Get.ensures

pub returns-in-Health : goal.returns-in-Health
returns-in-Health g c = rw c.in-Health.is c.answer_to-in-Health.ensures

pub returns-in-Put : goal.returns-in-Put
returns-in-Put g c = rw c.in-Put.is c.answer_to-in-Put.ensures
