use Rattle.snap_order.proofs.Growth.{each_next}
use Rattle.snap_file_commands.specs.Document.{row}
use Rattle.snap_file_commands.proofs.dump.text.with_values.Goals as goal

pub loop-index-preserved : goal.loop-index-preserved
loop-index-preserved c =
    each_next row c.args.values.now c.loop-index.index c.index-values-index.result c.args.text.items
    c.loop-index.text.items _ c.in_ok-text.ensures c.loop-index-test.true c.index-values-index.is c.loop-index.invariant
