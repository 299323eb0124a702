use Rattle.std.proofs.Common.{◌∙◌}
use Rattle.snap_memory.proofs.ScanAnswer.{may_publish, all_set, all_is, all_count, all_grown, all_same}
use Rattle.snap_memory.proofs.update.prepare.Goals as goal

pub gather-requires : goal.gather-requires
gather-requires c =
    let a = c.args.seat.now in
    let n = c.segments.ensures in
    record {
      set = all_set a _ _ n.count c.all.ensures.all n.some.0;
      left = rw (all_count a _ _ n.count c.all.ensures.all n.some.1) c.requires.left;
    }

pub returns-clause-scan : goal.returns-clause-scan
returns-clause-scan c =
    rw (all_is c.args.seat.now _ _ c.segments.ensures.count c.all.ensures.all) at c.gather.ensures.scan

pub returns-clause-view : goal.returns-clause-view
returns-clause-view c =
    let a = c.args.seat.now in
    let b = c.gather.new.seat in
    let g = c.gather.ensures.seen in
    let n = c.segments.ensures in
    may_publish a b g n.alone (all_grown a b g _ n.count n.some.1)
    c.gather.result (rw (all_is a _ _ n.count c.all.ensures.all ∙ all_same a b g) at c.gather.ensures.scan)

pub returns-clause-left : goal.returns-clause-left
returns-clause-left c =
    let n = c.segments.ensures in
    rw (all_count c.args.seat.now _ _ n.count c.all.ensures.all n.some.1) at c.gather.ensures.left
