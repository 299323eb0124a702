use Rattle.snap_memory.{proofs.ScanAnswer.part_clean}
use Rattle.snap_memory.proofs.looks.scan_some.Goals as goal

pub returns-in-Collected-clause-part : goal.returns-in-Collected-clause-part
returns-in-Collected-clause-part g c =
    let a = g.L.Looker.known c.args.seat.now in
    let b = g.L.Looker.known c.gather.new.seat in
    let set = c.args.set.bits in
    rw c.read_named.ensures.same (part_clean set a b c.read_named.new.out
    (rw c.in-Collected.is at c.gather.ensures.scan) c.read_named.ensures.values)
