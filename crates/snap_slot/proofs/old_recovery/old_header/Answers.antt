use Rattle.snap_slot.{proofs.Whole.header_of_file, specs.Old.old_mark}
use Rattle.snap_slot.proofs.old_recovery.old_header.Goals as goal

pub returns : goal.returns
returns c = header_of_file old_mark c.args.file.now c.range.result.now c.read_header.result
    c.range.ensures.bytes c.read_header.ensures
