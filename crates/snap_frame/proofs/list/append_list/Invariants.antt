use Rattle.std.proofs.Common.{◌≡◌, ◌≤◌, ◌++◌, length, take, drop, flat_map}
use Rattle.snap_frame.proofs.list.append_list.Given as goal

abbrev pub invariant-loop-entry : goal.invariant-loop-entry
invariant-loop-entry g l =
    (l.out.items ≡ l.initial.out.items ++ flat_map g.E.ListEntry.bytes (take l.entry-index l.entries))
    × (length (flat_map g.E.ListEntry.bytes (drop l.entry-index l.entries)) ≤ l.out.spare)
