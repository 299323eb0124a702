use Rattle.std.proofs.Common.{false, get_or}
use Rattle.snap_frame.specs.declared.entries.SegmentStatus.{SegmentStatus}
use Rattle.snap_client_commands.specs.Text.{status_line}
use Rattle.snap_order.proofs.Growth.{each_next, same_place}
use Rattle.snap_client_commands.proofs.print.put_statuses.Goals as goal

pub loop-index-preserved : goal.loop-index-preserved
loop-index-preserved c =
    let none : SegmentStatus = record { number = 0; is_fenced = false } in
    let statuses = c.args.statuses.now in
    let index = c.loop-index.index in
    each_next status_line statuses index (get_or statuses index none) c.args.out.now.items
    c.loop-index.out.items _ c.in_ok-put_status.ensures c.loop-index-test.true
    (same_place statuses index none _ c.loop-index-test.true) c.loop-index.invariant
