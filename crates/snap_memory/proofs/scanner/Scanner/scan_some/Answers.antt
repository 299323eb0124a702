use Rattle.std.proofs.Common.{◌≤◌, sym, subst}
use Rattle.snap_scan.proofs.Sets.{few}
use Rattle.snap_memory.proofs.Kept.{fits_grown}
use Rattle.snap_memory.proofs.scanner.Scanner.scan_some.Goals as goal

pub most_looks-requires : goal.most_looks-requires
most_looks-requires c = subst (λ n. n ≤ 16) (sym c.len.ensures.size) (few c.args.set.bits)

pub invariant_of-self : goal.invariant_of-self
invariant_of-self c =
    fits_grown c.self.inside.seat c.scan_some.new.seat c.self.inside.cache c.scan_some.ensures.seen c.self.invariant
