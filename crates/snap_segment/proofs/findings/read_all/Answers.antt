use Rattle.std.proofs.Common.{length, sym}
use Rattle.snap_disk.specs.Laws.{part_whole}
use Rattle.snap_segment.proofs.findings.read_all.Goals as goal

pub returns-clause-given : goal.returns-clause-given
returns-clause-given g c honest =
    let same = (c.in_ok-sync.ensures.synced (c.read_at.ensures.honest honest)).same in
    rw (← part_whole (length c.args.file.now) (g.D.Disk.device c.args.device.now).bytes
    (sym c.requires.whole)) (rw same at (c.read_at.ensures.given honest))
