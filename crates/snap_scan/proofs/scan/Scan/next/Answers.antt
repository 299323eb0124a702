use Rattle.std.proofs.Common.{sym, ap, ◌∙◌, rules, ◌<◌, length, take}
use Rattle.snap_scan.{specs.Course.Course, specs.Stands.next_at, specs.declared.next.Next.TheVariants.Look}
use Rattle.snap_scan.{specs.declared.next.Next.TheVariants.Borrow, proofs.Verdict.next_is, proofs.Verdict.listed}
use Rattle.snap_scan.proofs.scan.Scan.next.Goals as goal

pub returns-in-Look-clause-decides : goal.returns-in-Look-clause-decides
returns-in-Look-clause-decides c =
    let s = c.self.inside in
    let inv = c.self.invariant in
    let l : c.in-Look.place < length (take s.segments.count s.segments.list) = search rules in
    next_is s.set.bits s.machine s.numbers.list _ _ inv.1.count inv.0 c.self.view_is
    (ap Look (listed s.set.bits s.segments.count c.in-Look.place s.segments.list inv.1.list l)
    ∙ ap (next_at s.set.bits) (sym c.in-Look.is) ∙ ap (λ (v : Course). v.next) c.self.view_is)

pub returns-in-Clean-clause-decides : goal.returns-in-Clean-clause-decides
returns-in-Clean-clause-decides c =
    let s = c.self.inside in
    let inv = c.self.invariant in
    next_is s.set.bits s.machine s.numbers.list _ _ inv.1.count inv.0 c.self.view_is
    (ap (next_at s.set.bits) (sym c.in-Clean.is) ∙ ap (λ (v : Course). v.next) c.self.view_is)

pub returns-in-Borrow : goal.returns-in-Borrow
returns-in-Borrow c =
    let s = c.self.inside in
    let inv = c.self.invariant in
    let l : c.in-Borrow.place < length (take s.segments.count s.segments.list) = search rules in
    let is = ap Borrow (listed s.set.bits s.segments.count c.in-Borrow.place s.segments.list inv.1.list l)
    ∙ ap (next_at s.set.bits) (sym c.in-Borrow.is) ∙ ap (λ (v : Course). v.next) c.self.view_is in
    record {
      same = is;
      decides = next_is s.set.bits s.machine s.numbers.list _ _ inv.1.count inv.0 c.self.view_is is;
    }
