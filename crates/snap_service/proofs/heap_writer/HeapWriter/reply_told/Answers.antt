use Rattle.std.proofs.Common.{subst, ◌∙◌}
use Rattle.snap_writer.specs.Writer.{WriterState}
use Rattle.snap_service.specs.Updated.{RepliesTold}
use Rattle.snap_service.proofs.heap_writer.HeapWriter.reply_told.Goals as goal

pub returns : goal.returns
returns g c =
    let P : WriterState _ → Type 0 = λ w. RepliesTold c.args.told w c.reply_told.new.writer
    c.args.scanner.now c.reply_told.new.scanner c.reply_told.result in
    subst P (c.as_mut.ensures.value ∙ c.self.view_is) c.reply_told.ensures
