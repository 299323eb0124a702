use Rattle.std.proofs.{Common.◌≡◌, Common.length}
use Rattle.snap_world.specs.{inside.Drives.AllReady}
use Rattle.snap_world.proofs.drive.new_drives.Given as goal

abbrev pub invariant-loop-i : goal.invariant-loop-i
invariant-loop-i l = record { count : length l.drives.items ≡ l.i; each : AllReady l.segments l.drives.items }
