use Rattle.std.proofs.Common.{◌≡◌, ◌++◌, codes, flat_map, take}
use Rattle.snap_script.specs.Text.{value_text}
use Rattle.snap_script.proofs.print.put_memory.Given as goal

abbrev pub invariant-loop-value : goal.invariant-loop-value
invariant-loop-value l = l.out.items ≡ l.fn.out.items
    ++ (codes "memory" ++ flat_map (λ v. value_text v.items) (take l.value-index l.values))
