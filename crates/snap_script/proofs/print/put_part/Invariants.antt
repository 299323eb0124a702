use Rattle.std.proofs.Common.{◌≡◌, ◌++◌, codes, flat_map, take}
use Rattle.snap_script.specs.Text.{entry_text}
use Rattle.snap_script.proofs.print.put_part.Given as goal

abbrev pub invariant-loop-entry : goal.invariant-loop-entry
invariant-loop-entry l = l.out.items ≡ l.fn.out.items
    ++ (codes "part" ++ flat_map entry_text (take l.entry-index l.entries))
