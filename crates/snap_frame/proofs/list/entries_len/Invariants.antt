use Rattle.std.proofs.Common.{◌≡◌, ◌*◌, ◌≤◌, length, take, flat_map}
use Rattle.snap_frame.specs.Messages.{longest_entry}
use Rattle.snap_frame.proofs.list.entries_len.Given as goal

abbrev pub invariant-loop-entry : goal.invariant-loop-entry
invariant-loop-entry g l =
    (l.len ≡ length (flat_map g.E.ListEntry.bytes (take l.entry-index l.entries)))
    × (l.len ≤ longest_entry * l.entry-index)
