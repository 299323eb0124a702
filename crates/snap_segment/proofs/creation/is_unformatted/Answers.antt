use Rattle.std.proofs.Common.{rules, ◌≡◌, ◌≢◌, ℕ, not, eqb, arith}
use Rattle.std.{proofs.lemmas.Bool.Decides.nat_tests, specs.Prelude.IsTrue, specs.Prelude.◌↔◌}
use Rattle.snap_slot.proofs.Blank.{gate_read}
use Rattle.snap_segment.proofs.creation.is_unformatted.Goals as goal

same_gate : (x y : ℕ) → x ≡ y → IsTrue (not (eqb x 165)) ↔ (y ≢ 165)
same_gate x y same = grind (arith, nat_tests)

pub returns-clause-unformatted : goal.returns-clause-unformatted
returns-clause-unformatted g c honest = search (rules, same_gate, gate_read)
