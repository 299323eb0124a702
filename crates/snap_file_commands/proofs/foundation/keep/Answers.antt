use Rattle.std.proofs.Common.{refl}
use Rattle.snap_file_commands.proofs.Founded.{kept, unopened}
use Rattle.snap_file_commands.proofs.foundation.keep.Goals as goal

pub returns-in-Err-clause-ends : goal.returns-in-Err-clause-ends
returns-in-Err-clause-ends g c =
    rw c.of_formatted.ensures (unopened _ _ _ (g.D.Disk.device c.args.disk)
    (g.D.Disk.device c.in-Err.disk) c.in-Err.why c.in-Err.ensures.refusals c.in-Err.ensures.refused)

pub returns-in-Ok-write_whole-clause-ends : goal.returns-in-Ok-write_whole-clause-ends
returns-in-Ok-write_whole-clause-ends g c =
    let segment = c.in-Ok.segment in
    let opened = c.in-Ok.ensures in
    let is = kept g.D.Disk c.args.index c.args.count segment.number segment.value segment.spare_open c.args.disk _ _
    c.into_device-in-Ok-write_whole.ensures.device opened.file_length opened.holds opened.at_rest in
    (refl, (segment.number, segment.value, is))

pub returns-clause-ends : goal.returns-clause-ends
returns-clause-ends g c =
    let segment = c.in-Ok.segment in
    let opened = c.in-Ok.ensures in
    let is = kept g.D.Disk c.args.index c.args.count segment.number segment.value segment.spare_open c.args.disk _ _
    c.into_device-in-Err-write_whole.ensures.device opened.file_length opened.holds opened.at_rest in
    (segment.number, segment.value, is)
