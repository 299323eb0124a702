use Rattle.std.proofs.Common.{◌≡◌, ◌<◌, ◌∙◌, None, Some, ap, arith, get_or, length}
use Rattle.std.proofs.lemmas.{Grind.common_steps, Option.slice_get-get_or}
use Rattle.snap_order.proofs.Growth.{same_place}
use Rattle.snap_file_commands.proofs.segment_order.order_files.Goals as goal

pub returns-clause-within : goal.returns-clause-within
returns-clause-within c = λ k d below.
    let order = c.loop-index.order.items in
    let seats = c.in_ok-seats.seats.items in
    let inv = c.loop-index.invariant in
    let seating = c.in_ok-seats.ensures.seats in
    let early : k < c.loop-index.index = omega (arith, below, inv.0) in
    let inside : k < length seats = omega (arith, early, seating.size, c.loop-index.auto.index-end) in
    let sits = slice_get-get_or seats k None inside ∙ ap Some (inv.2 k early) in
    rw (same_place order k d 0 below) (seating.back k (get_or order k 0) sits).0

pub loop-index-preserved : goal.loop-index-preserved
loop-index-preserved c = grind (arith, common_steps)

pub returns-clause-some : goal.returns-clause-some
returns-clause-some c = omega (arith, c.in_ok-count.ensures.some.0)

pub returns-clause-order : goal.returns-clause-order
returns-clause-order c =
    let order = c.loop-index.order.items in
    let seats = c.in_ok-seats.seats.items in
    let inv = c.loop-index.invariant in
    let seating = c.in_ok-seats.ensures.seats in
    let n : length order ≡ c.in_ok-count.count = omega (arith, inv.0) in
    record {
      whole = grind (arith, common_steps);
      each = λ i below.
          let inside : i < length seats = omega (arith, below, n, seating.size) in
          let sits = slice_get-get_or seats i None inside ∙ ap Some (inv.2 i (omega (arith, below, inv.0))) in
          rw n (seating.back i (get_or order i 0) sits).1;
    }
