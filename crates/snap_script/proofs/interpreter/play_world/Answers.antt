use Rattle.snap_script.proofs.Plays.{played_first}
use Rattle.snap_script.proofs.interpreter.play_world.Goals as goal

pub returns-clause-ok : goal.returns-clause-ok
returns-clause-ok c =
    let made = c.in_ok-world.ensures in
    played_first c.in_ok-world.world c.args.line.now _ _ _ c.in-Some.ensures made.segments made.phases made.devices
    made.stands (rw c.requires at c.in_ok-print_world.ensures)
