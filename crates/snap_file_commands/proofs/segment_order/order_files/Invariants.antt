use Rattle.std.proofs.Common.{◌≡◌, ◌<◌, ◌≤◌, ℕ, length, get_or, Some, None, sum_by, take}
use Rattle.std.specs.Prelude.{vec_capacity}
use Rattle.snap_file_commands.specs.SegmentOrder.{file_count}
use Rattle.snap_file_commands.proofs.segment_order.order_files.Given as goal

-- the files of the segments so far, each of which has one
abbrev pub invariant-loop-index : goal.invariant-loop-index
invariant-loop-index l = (length l.order.items ≡ l.index) × (sum_by file_count (take l.index l.seats.items) ≡ l.index)
    × ((i : ℕ) → i < l.index → get_or l.seats.items i None ≡ Some (get_or l.order.items i 0))
    × (l.count ≤ vec_capacity l.order)
