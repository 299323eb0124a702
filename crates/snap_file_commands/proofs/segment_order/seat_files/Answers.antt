use Rattle.std.proofs.Common.{rules, ◌≡◌, length, Some, get_or, refl, ap, ◌∙◌, arith}
use Rattle.std.proofs.lemmas.Option.{slice_get-get_or, slice_get_read}
use Rattle.snap_file_commands.proofs.Seats.{none_yet, one_more}
use Rattle.snap_file_commands.proofs.segment_order.seat_files.Goals as goal

pub loop-second-init : goal.loop-second-init
loop-second-init c =
    let new = c.in_ok-seats.ensures.items_if_clones_equal (λ y is. search rules) in
    let from = c.from.ensures in
    rw (new, from) (none_yet c.args.places.now c.args.count)

pub returns-in-Some-clause-fault : goal.returns-in-Some-clause-fault
returns-in-Some-clause-fault c =
    let places = c.args.places.now in
    let second = c.loop-second.second in
    let p = get_or places second (record { index = 0; count = 0 }) in
    let says = slice_get-get_or places second (record { index = 0; count = 0 }) c.loop-second-test.true in
    let one = c.requires second (record { index = 0; count = 0 }) c.loop-second-test.true in
    let seating = c.loop-second.invariant in
    let sits = slice_get_read c.loop-second.seats.items _ _ c.index.result.now refl (omega arith) c.index.ensures in
    let first = seating.back c.from-index.result c.in-Some.first (sits ∙ ap Some c.in-Some.is) in
    (record { index = c.from-index.result; count = c.args.count }, p, first.1, says, first.0, c.from-index.ensures)

pub loop-second-preserved : goal.loop-second-preserved
loop-second-preserved c =
    let places = c.args.places.now in
    let second = c.loop-second.second in
    let p = get_or places second (record { index = 0; count = 0 }) in
    let says = slice_get-get_or places second (record { index = 0; count = 0 }) c.loop-second-test.true in
    let one = c.requires second (record { index = 0; count = 0 }) c.loop-second-test.true in
    let free = slice_get_read c.loop-second.seats.items _ _ c.index.result.now refl (omega arith) c.index.ensures in
    rw c.from-index.ensures (one_more places c.args.count second c.loop-second.seats.items p says one
    (rw c.from-index.ensures at (free ∙ ap Some c.in_default.is)) c.loop-second.invariant)

pub returns-clause-seats : goal.returns-clause-seats
returns-clause-seats c =
    let whole : length c.args.places.now ≡ c.loop-second.second = omega arith in
    rw whole c.loop-second.invariant
