use Rattle.std.proofs.Common.{ℕ, sym, subst, ap, ◌∙◌}
use Rattle.snap_scan.specs.Sets.{size, IsAt}
use Rattle.snap_scan.proofs.Verdict.{says_next, at_look, turn_at}
use Rattle.snap_scan.specs.{Looks.IsNoFall, Course.Course, Stands.StandsFor}
use Rattle.snap_scan.proofs.scan.Scan.told.Goals as goal

-- the segment has a place
pub told-requires : goal.told-requires
told-requires c =
    let s = c.self.inside in
    let inv = c.self.invariant in
    let p = c.in-Look.place in
    let at = at_look s.set.bits p c.args.segment s.machine.next c.in-Look.is
    (ap (λ (v : Course). v.next) c.self.view_is ∙ c.requires.turn) in
    let rising = subst (λ (v : Course). (p : ℕ) → IsAt v.set p c.args.segment
    → IsNoFall (size v.set) v.told p c.args.number) (sym c.self.view_is) c.requires.rising p
    (turn_at s.set.bits s.machine s.numbers.list p c.args.segment inv.1.count c.in-Look.is at inv.0) in
    record {
      turn = c.in-Look.is;
      stands = ∣ (
        s.numbers.list,
        inv.0,
        subst (λ n. IsNoFall n s.numbers.list p c.args.number) (sym inv.1.count) rising,
      ) ∣₁;
    }

pub invariant_of-self : goal.invariant_of-self
invariant_of-self c = (
  subst (StandsFor c.told.new.self) (sym c.then-self-inside.ensures)
      (c.told.ensures.told c.self.inside.numbers.list c.self.invariant.0),
  record { list = c.self.invariant.1.list; count = c.told.ensures.size ∙ c.self.invariant.1.count },
)

pub returns-clause-next : goal.returns-clause-next
returns-clause-next c =
    says_next c.self.inside.set.bits c.told.new.self c.then-self-inside.result.list
    (c.told.ensures.size ∙ c.self.invariant.1.count) (subst (StandsFor c.told.new.self) (sym c.then-self-inside.ensures)
    (c.told.ensures.told c.self.inside.numbers.list c.self.invariant.0))
