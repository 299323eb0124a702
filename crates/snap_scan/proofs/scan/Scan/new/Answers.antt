use Rattle.std.proofs.{Common.arith, lemmas.Nat.pow_below}
use Rattle.snap_scan.proofs.scan.Scan.new.Goals as goal

pub of-requires : goal.of-requires
of-requires c = record {
  some = (let more = pow_below 0 c.args.segments c.requires.least in
      let is = c.all.ensures.all in omega arith);
}
