use Rattle.std.proofs.Common.{◌≡◌, ◌++◌, length, flat_map, All}
use Rattle.snap_frame.proofs.list.read_entries.Given as goal

abbrev pub invariant-loop : goal.invariant-loop
invariant-loop g l = record {
  count : length l.entries.items ≡ l.counter;
  read : All g.E.ListEntry.may_stand l.entries.items;
  split : l.fn.rest ≡ flat_map g.E.ListEntry.bytes l.entries.items ++ l.rest;
}
