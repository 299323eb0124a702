use Rattle.std.proofs.Common.{◌≡◌, ◌+◌, ◌<◌, ◌≤◌, arith, refl, length, ◌∙◌}
use Rattle.std.proofs.lemmas.{Bool.iff_false, List.length-set}
use Rattle.snap_scan.{specs.Sets.named_below, proofs.Sets.listed_with, proofs.Sets.listed_without}
use Rattle.snap_scan.proofs.scan.Segments.of.Goals.{then-has, else-has}
use Rattle.snap_scan.proofs.scan.Segments.of.Goals as goal

pub loop-segment-init : goal.loop-segment-init
unfolding named_below
loop-segment-init c = record { list = refl; set = refl; few = omega arith; wide = refl; most = omega arith }

pub loop-segment-preserved : goal.loop-segment-preserved
loop-segment-preserved c =
    let inv = c.loop-segment.invariant in
    let k = c.loop-segment.segment in
    let n = c.loop-segment.count in
    elim c.if-has.branch [
      | then-has w ↦ (
          let few : n ≤ k = inv.few in
          let l : k < 16 = c.loop-segment-test.true in
          let wide : length c.loop-segment.list ≡ 16 = inv.wide in
          let more : n + 1 ≤ k + 1 = omega arith in
          let listed = listed_with c.args.set.bits k n c.loop-segment.list inv.list (omega arith)
          (c.has.ensures.names.0 w.if-has.true) in
          rw w.count-is (rw w.list-is (record {
            list = listed;
            set = refl;
            few = more;
            wide = length-set c.loop-segment.list n k ∙ wide;
            most = omega arith;
          })))
      | else-has w ↦ (
          let l : k < 16 = c.loop-segment-test.true in
          let few : n ≤ k = inv.few in
          rw w.count-is (rw w.list-is (record {
            list = listed_without c.args.set.bits k n c.loop-segment.list inv.list
                (iff_false c.has.ensures.names w.if-has.false);
            set = refl;
            few = omega arith;
            wide = inv.wide;
            most = omega arith;
          })))
    ]
