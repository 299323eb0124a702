use Rattle.snap_file_commands.specs.SegmentOrder.{IsSeating}
use Rattle.snap_file_commands.proofs.segment_order.seat_files.Given as goal

-- the files so far are sorted by the segments in their headers
abbrev pub invariant-loop-second : goal.invariant-loop-second
invariant-loop-second l = IsSeating l.places l.count l.second l.seats.items
