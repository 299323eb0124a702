use Rattle.std.proofs.Common.{arith}
use Rattle.snap_slot.proofs.Recovered.{slots_read}
use Rattle.snap_slot.proofs.findings.held_in.Goals as goal

pub returns-in_default : goal.returns-in_default
returns-in_default c b s here next spare k v at is =
    let read = slots_read b s c.args.here c.args.next c.args.spare here next spare k v at is in grind arith

pub returns-in_default-2 : goal.returns-in_default-2
returns-in_default-2 c b s here next spare k v at is =
    let read = slots_read b s c.args.here c.args.next c.args.spare here next spare k v at is in grind arith

pub returns-in_default-3 : goal.returns-in_default-3
returns-in_default-3 c b s here next spare k v at is =
    let read = slots_read b s c.args.here c.args.next c.args.spare here next spare k v at is in grind arith

pub returns-in_default-4 : goal.returns-in_default-4
returns-in_default-4 c b s here next spare k v at is =
    let read = slots_read b s c.args.here c.args.next c.args.spare here next spare k v at is in grind arith

pub returns-in_default-5 : goal.returns-in_default-5
returns-in_default-5 c b s here next spare k v at is =
    let read = slots_read b s c.args.here c.args.next c.args.spare here next spare k v at is in grind arith
