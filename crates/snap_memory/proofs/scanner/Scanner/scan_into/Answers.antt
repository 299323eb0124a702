use Rattle.std.proofs.Common.{◌∙◌}
use Rattle.snap_memory.proofs.ScanAnswer.{snapshot_all, all_set, all_is, all_count, all_grown, all_same, both_ok}
use Rattle.snap_memory.proofs.scanner.Scanner.scan_into.Goals as goal

pub scan_some-requires-clause-set : goal.scan_some-requires-clause-set
scan_some-requires-clause-set c =
    let n = c.segments.ensures in
    all_set c.args.self.now _ _ n.count c.all.ensures.all n.some.0

pub returns-clause-enough : goal.returns-clause-enough
returns-clause-enough c =
    let n = c.segments.ensures in
    rw (all_count c.args.self.now _ _ n.count c.all.ensures.all n.some.1) at c.scan_some.ensures.enough

pub returns-clause-worn : goal.returns-clause-worn
returns-clause-worn c =
    let n = c.segments.ensures in
    rw (all_count c.args.self.now _ _ n.count c.all.ensures.all n.some.1) at c.scan_some.ensures.worn

pub returns-clause-snapshot : goal.returns-clause-snapshot
returns-clause-snapshot c =
    let a = c.args.self.now in
    let b = c.scan_some.new.self in
    let n = c.segments.ensures in
    both_ok c.scan_some.result _ _ _ (λ part seen.
    snapshot_all a b (all_grown a b seen _ n.count n.some.1) c.scan_some.new.out
    (rw (all_is a _ _ n.count c.all.ensures.all ∙ all_same a b seen) at part))
    c.scan_some.ensures.part c.scan_some.ensures.seen

pub returns-clause-left : goal.returns-clause-left
returns-clause-left c =
    let n = c.segments.ensures in
    rw (all_count c.args.self.now _ _ n.count c.all.ensures.all n.some.1) at c.scan_some.ensures.left
