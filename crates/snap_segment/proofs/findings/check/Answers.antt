use Rattle.std.proofs.Common.{sym, ◌∙◌}
use Rattle.snap_disk.specs.Laws.{part_whole}
use Rattle.snap_slot.specs.declared.layout.TheConstants.{FILE_LEN}
use Rattle.snap_segment.proofs.findings.check.Goals as goal

pub returns-in-Ok-clause-findings : goal.returns-in-Ok-clause-findings
returns-in-Ok-clause-findings g c honest = rw (c.in-Ok.ensures.given honest
    ∙ part_whole FILE_LEN _ (sym c.len.ensures ∙ c.if-len-ne-FILE_LEN.false)) at c.inspect.ensures
