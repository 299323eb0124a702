use Rattle.std.proofs.Common.{false, get_or, ◌∙◌}
use Rattle.snap_frame.specs.declared.entries.SegmentStatus.{SegmentStatus}
use Rattle.snap_order.specs.Documents.{list_head, status_tokens}
use Rattle.snap_order.proofs.Growth.{each_next, same_place}
use Rattle.snap_order.proofs.document.status_document.Goals as goal

pub loop-index-preserved : goal.loop-index-preserved
loop-index-preserved c =
    let none : SegmentStatus = record { number = 0; is_fenced = false } in
    let statuses = c.args.statuses.now in
    let index = c.loop-index.index in (
      each_next status_tokens statuses index (get_or statuses index none) list_head
          c.loop-index.writer.tokens _ c.in_ok-put_status.ensures.tokens c.loop-index-test.true
          (same_place statuses index none _ c.loop-index-test.true) c.loop-index.invariant.0,
      c.put_status.ensures.before ∙ c.loop-index.invariant.1,
    )
