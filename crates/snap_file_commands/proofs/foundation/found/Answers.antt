use Rattle.snap_file_commands.proofs.Founded.{keeping}
use Rattle.snap_file_commands.proofs.foundation.found.Goals as goal

pub returns-in-Ok-false-clause-ends : goal.returns-in-Ok-false-clause-ends
returns-in-Ok-false-clause-ends g c =
    let looked = c.in-Ok-false.ensures in
    keeping _ _ _ (g.D.Disk.device c.args.disk) (g.D.Disk.device c.is_blank.new.disk) _ c.keep.result.1
    (λ honest. looked.unchanged (c.keep.ensures.honest honest))
    (λ honest. rw c.in-Ok-false.field-0-test at (looked.says (c.keep.ensures.honest honest))) c.keep.ensures.ends
