use Rattle.std.proofs.Common.{◌∙◌}
use Rattle.snap_order.{specs.Documents.list_head, specs.Documents.value_tokens, proofs.Growth.each_next}
use Rattle.snap_order.proofs.document.scan_document.Goals as goal

pub loop-index-preserved : goal.loop-index-preserved
loop-index-preserved c = (
  each_next value_tokens c.args.values.now c.loop-index.index c.index-values-index.result
      list_head c.loop-index.writer.tokens _
      (rw c.as_slice.ensures at c.in_ok-put_value.ensures.tokens) c.loop-index-test.true c.index-values-index.is
      c.loop-index.invariant.0,
  c.put_value.ensures.before ∙ c.loop-index.invariant.1,
)
