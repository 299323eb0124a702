use Rattle.snap_client_commands.specs.Text.{value_line}
use Rattle.snap_order.proofs.Growth.{each_next}
use Rattle.snap_client_commands.proofs.print.put_values.Goals as goal

pub loop-index-preserved : goal.loop-index-preserved
loop-index-preserved c = λ is. each_next value_line c.args.values.now c.loop-index.index
    c.index-values-index.result c.args.out.now.items c.loop-index.out.items _
    (c.in_ok-put_value.ensures is) c.loop-index-test.true c.index-values-index.is (c.loop-index.invariant is)
