use Rattle.snap_script.proofs.Plays.{played_on}
use Rattle.snap_script.proofs.interpreter.play_event.Goals as goal

pub returns-clause-ok : goal.returns-clause-ok
returns-clause-ok c = λ lines text played.
    played_on c.args.world.now c.step.new.self lines text c.args.line.now c.in-Some.event c.in_ok-reply.reply _ played
    (rw c.in-Some.is at c.in_ok-event.ensures) c.in_ok-reply.ensures.run (rw c.requires at c.in_ok-print_reply.ensures)
