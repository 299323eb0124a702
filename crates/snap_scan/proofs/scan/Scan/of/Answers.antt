use Rattle.std.proofs.Common.{sym, subst, ◌<◌, arith}
use Rattle.snap_scan.proofs.Sets.{some}
use Rattle.snap_scan.proofs.scan.Scan.of.Goals as goal

pub new-requires-clause-least : goal.new-requires-clause-least
new-requires-clause-least c = subst (λ n. 0 < n) (sym c.of-segments.ensures.count) (some c.args.set.bits (omega (
  arith,
  c.of-segments.type_inv,
  c.well_formed,
)) c.requires.some)
