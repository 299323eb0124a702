use Rattle.std.proofs.Common.{◌≤◌, sym, subst, ◌∙◌}
use Rattle.snap_scan.proofs.Sets.{few}
use Rattle.snap_memory.specs.ScanCaches.{Fits}
use Rattle.snap_memory.proofs.scanner.Scanner.scan.Goals.{in-Kept, in-Absent+in-Ok}
use Rattle.snap_memory.proofs.scanner.Scanner.scan.Goals as goal

pub most_looks-requires : goal.most_looks-requires
most_looks-requires c = subst (λ n. n ≤ 16) (sym c.len.ensures.size) (few c.args.set.bits)

pub scan_kept-values-requires-clause-kept : goal.scan_kept-values-requires-clause-kept
scan_kept-values-requires-clause-kept c =
    elim c.match-replace.branch [
      | in-Kept w ↦ rw w.cache-is (subst (Fits c.self.inside.seat)
          (sym c.replace.ensures.value ∙ w.in-Kept.is) c.self.invariant).1
      | in-Absent+in-Ok w ↦ rw w.cache-is (w.in-Ok.ensures.none c.self.inside.seat)
    ]
