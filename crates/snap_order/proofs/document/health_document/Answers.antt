use Rattle.std.proofs.Common.{◌++◌, ◌∷◌, [], codes, false, get_or, ◌∙◌}
use Rattle.snap_frame.specs.declared.entries.SegmentStatus.{SegmentStatus}
use Rattle.json.specs.Token.{begin_array, key}
use Rattle.snap_order.specs.Documents.{fence_tokens, health_tokens}
use Rattle.snap_order.proofs.Growth.{each_next, same_place}
use Rattle.snap_order.proofs.document.health_document.Goals as goal

pub loop-index-preserved : goal.loop-index-preserved
loop-index-preserved c =
    let none : SegmentStatus = record { number = 0; is_fenced = false } in
    let statuses = c.args.statuses.now in
    let index = c.loop-index.index in
    let head = health_tokens false ++ key (codes "fenced") ∷ begin_array ∷ [] in (
      each_next fence_tokens statuses index (get_or statuses index none) head
          c.loop-index.writer.tokens _ c.in_ok-put_fence.ensures.tokens c.loop-index-test.true
          (same_place statuses index none _ c.loop-index-test.true) c.loop-index.invariant.0,
      c.put_fence.ensures.before ∙ c.loop-index.invariant.1,
    )
