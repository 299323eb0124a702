use Rattle.snap_disk.specs.{Device.MayLeave, Laws.one_call, Laws.unchanged_leaves, Time.LeavesOnly}
use Rattle.snap_file_commands.proofs.slot_value.print_slot.Goals.{After-read_at-read}
use Rattle.snap_file_commands.proofs.slot_value.print_slot.Goals as goal

-- a crash leaves no more than one before the read could
leaves : (g : _) (c : After-read_at-read g) → g.D.Disk.is_honest c.read_at-read.new.self
    → LeavesOnly g.D.Disk c.args.disk.now c.read_at-read.new.self (MayLeave (g.D.Disk.device c.args.disk.now))
leaves g c honest =
    one_call _ _ _ _ _ (λ b. g.met.D.Disk.only_now _ b (c.read_at-read.ensures.honest honest))
    (c.read_at-read.ensures.time honest) (unchanged_leaves (c.read_at-read.ensures.left honest))

pub returns-in_err-map_err-clause-any_time : goal.returns-in_err-map_err-clause-any_time
returns-in_err-map_err-clause-any_time g c =
    leaves g (goal.at.returns-in_err-map_err-clause-any_time g c).After-read_at-read

pub returns-in_err-map_err-in-Ok-clause-any_time : goal.returns-in_err-map_err-in-Ok-clause-any_time
returns-in_err-map_err-in-Ok-clause-any_time g c =
    leaves g (goal.at.returns-in_err-map_err-in-Ok-clause-any_time g c).After-read_at-read

pub returns-in_err-file-in-Err-clause-any_time : goal.returns-in_err-file-in-Err-clause-any_time
returns-in_err-file-in-Err-clause-any_time g c =
    leaves g (goal.at.returns-in_err-file-in-Err-clause-any_time g c).After-read_at-read

pub returns-in-Err-clause-any_time : goal.returns-in-Err-clause-any_time
returns-in-Err-clause-any_time g c = leaves g (goal.at.returns-in-Err-clause-any_time g c).After-read_at-read

pub returns-clause-any_time : goal.returns-clause-any_time
returns-clause-any_time g c = leaves g (goal.at.returns-clause-any_time g c).After-read_at-read
