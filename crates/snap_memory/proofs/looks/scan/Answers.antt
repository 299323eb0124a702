use Rattle.std.proofs.Common.{◌∙◌}
use Rattle.snap_memory.proofs.ScanAnswer.{snapshot_all, all_set, all_is, all_count, all_grown, all_same}
use Rattle.snap_memory.proofs.looks.scan.Goals as goal

pub scan_some-requires-clause-set : goal.scan_some-requires-clause-set
scan_some-requires-clause-set g c =
    all_set (g.L.Looker.known c.args.seat.now) _ _ c.segments.ensures.count c.all.ensures.all c.segments.ensures.some.0

pub scan_some-requires-clause-left : goal.scan_some-requires-clause-left
scan_some-requires-clause-left g c =
    let n = c.segments.ensures in
    rw (all_count (g.L.Looker.known c.args.seat.now) _ _ n.count c.all.ensures.all n.some.1) c.requires.left

pub returns-clause-snapshot : goal.returns-clause-snapshot
returns-clause-snapshot g c =
    let a = g.L.Looker.known c.args.seat.now in
    let b = g.L.Looker.known c.scan_some.new.seat in
    let n = c.segments.ensures in
    let seen = c.scan_some.ensures.seen in
    snapshot_all a b (all_grown a b seen _ n.count n.some.1) c.scan_some.new.out
    (rw (all_is a _ _ n.count c.all.ensures.all ∙ all_same a b seen) at c.scan_some.ensures.part)

pub returns-clause-left : goal.returns-clause-left
returns-clause-left g c =
    let n = c.segments.ensures in
    rw (all_count (g.L.Looker.known c.args.seat.now) _ _ n.count c.all.ensures.all n.some.1) at c.scan_some.ensures.left
