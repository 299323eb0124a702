use Rattle.std.proofs.Common.{ℕ, inl, inr, ◌≤◌, Some, refl, ap, sym, ◌∙◌, arith}
use Rattle.std.proofs.lemmas.Bool.{cases_eq, iff_false}
use Rattle.snap_register.specs.{Rule.segments}
use Rattle.snap_memory.proofs.looks.read_named.Goals.{then-has, else-has}
use Rattle.snap_memory.proofs.looks.read_named.Goals as goal

pub loop-i-preserved : goal.loop-i-preserved
loop-i-preserved g c =
    let inv = c.loop-i.invariant in
    let k : ℕ = c.loop-i.i in
    elim c.if-has.branch [
      | then-has w ↦ (
          let x = w.read.ensures.here in
          rw w.seat-is (rw w.out-is (record {
            same = w.read.ensures.same ∙ inv.same;
            set = refl;
            long = w.read.ensures.size ∙ inv.long;
            each = λ i l named. elim (cases_eq i k) [
              | inl is ↦ rw is (x.0, x.1, x.2, rw (← inv.same) x.3)
              | inr ne ↦ (let old = inv.each i (omega arith) named in
                  (old.0, w.read.ensures.others i ne ∙ old.1, old.2, old.3))
            ];
            others = λ i un. w.read.ensures.others i
                (λ is. un (rw is (c.has.ensures.names.0 w.if-has.true))) ∙ inv.others i un;
          })))
      | else-has w ↦ (
          rw w.seat-is (rw w.out-is (record {
            same = inv.same;
            set = refl;
            long = inv.long;
            each = λ i l named. elim (cases_eq i k) [
              | inl is ↦ absurd (iff_false c.has.ensures.names w.if-has.false (rw is at named))
              | inr ne ↦ inv.each i (omega arith) named
            ];
            others = inv.others;
          })))
    ]

pub returns-clause-values : goal.returns-clause-values
returns-clause-values g c =
    let inv = c.loop-i.invariant in
    let all : segments (g.L.Looker.known c.args.seat.now).plan ≤ c.loop-i.i =
    omega (arith, c.segments-i-end.ensures.count, c.loop-i-test.false) in
    record {
      size = inv.long ∙ c.requires.room;
      each = λ i l named. (
          let x = inv.each i (omega arith) named in
          (x.0, x.1, c.requires.looked i l named ∙ ap Some (sym x.2), x.3));
    }
