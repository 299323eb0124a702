use Rattle.std.proofs.Common.{List, ℕ, refl}
use Rattle.snap_disk.specs.{Time.LeavesOnly}
use Rattle.snap_file_commands.{specs.Migration.IsMigrated, specs.Migration.MigrationLeaves, proofs.Carried.by_refusal}
use Rattle.snap_file_commands.proofs.Carried.{made_leaves, migrated}
use Rattle.snap_file_commands.proofs.{Carried.untouched_leaves, migration.act_pair.Goals.After-write_whole}
use Rattle.snap_file_commands.proofs.migration.act_pair.Goals as goal

pub returns-in-Err-clause-new_any_time : goal.returns-in-Err-clause-new_any_time
returns-in-Err-clause-new_any_time g c = λ old_honest new_honest.
    let answer = c.in-Err.ensures in
    let old = g.O.Disk.device c.args.old in
    let now = λ (x : List ℕ). g.met.N.Disk.only_now c.args.new x (answer.honest_new new_honest) in
    by_refusal _ c.in-Err.which c.in-Err.why answer.refusals
    (λ is_old. untouched_leaves g.N.Disk _ _ _ _ old _ (answer.new_untouched is_old) now)
    (λ is_new is_wrong. untouched_leaves g.N.Disk _ _ _ _ old _ (answer.wrong_new_same (cc)).1 now)
    (λ past. made_leaves g.N.Disk _ _ _ _ old _ (answer.old_read old_honest past)
    (answer.any_time old_honest new_honest))

-- what both files are then
carried : (g : _) (c : After-write_whole g) → g.O.Disk.is_honest c.migrate.new.old
    → g.N.Disk.is_honest c.migrate.new.new
    → IsMigrated c.args.order.now.index c.args.order.now.count c.in-Ok-migrate.number
    (g.O.Disk.device c.args.old) (g.N.Disk.device c.args.new) (g.N.Disk.device c.migrate.new.new)
carried g c old_honest new_honest =
    let answer = c.in-Ok-migrate.ensures in
    migrated _ _ _ (g.O.Disk.device c.args.old) (g.N.Disk.device c.args.new) _ (answer.old_read old_honest tt)
    (answer.unformatted new_honest) (answer.last old_honest new_honest) (answer.bytes old_honest new_honest)

-- and what a crash leaves of the new one
leaves : (g : _) (c : After-write_whole g) → g.O.Disk.is_honest c.migrate.new.old
    → g.N.Disk.is_honest c.migrate.new.new → LeavesOnly g.N.Disk c.args.new c.migrate.new.new
    (MigrationLeaves c.args.order.now.index c.args.order.now.count (g.O.Disk.device c.args.old)
    (g.N.Disk.device c.args.new))
leaves g c old_honest new_honest =
    let answer = c.in-Ok-migrate.ensures in
    made_leaves g.N.Disk _ _ _ _ (g.O.Disk.device c.args.old) _ (answer.old_read old_honest tt)
    (answer.any_time old_honest new_honest)

pub returns-in-Ok-write_whole-clause-ends : goal.returns-in-Ok-write_whole-clause-ends
returns-in-Ok-write_whole-clause-ends g c =
    let at = (goal.at.returns-in-Ok-write_whole-clause-ends g c).After-write_whole in
    (c.in-Ok-migrate.number, refl, carried g at)

pub returns-in-Ok-write_whole-clause-new_any_time : goal.returns-in-Ok-write_whole-clause-new_any_time
returns-in-Ok-write_whole-clause-new_any_time g c =
    leaves g (goal.at.returns-in-Ok-write_whole-clause-new_any_time g c).After-write_whole

pub returns-clause-ends : goal.returns-clause-ends
returns-clause-ends g c = (c.in-Ok-migrate.number, carried g (goal.at.returns-clause-ends g c).After-write_whole)

pub returns-clause-new_any_time : goal.returns-clause-new_any_time
returns-clause-new_any_time g c = leaves g (goal.at.returns-clause-new_any_time g c).After-write_whole
