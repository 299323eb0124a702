use Rattle.std.{proofs.Common.◌≡◌, proofs.Common.◌++◌, proofs.Common.take, specs.Prelude.replicate, specs.List.flat_map}
use Rattle.snap_register.specs.declared.plan.Opening.{Opening}
use Rattle.snap_register.proofs.tables.first_words.Given as goal

abbrev pub invariant-loop-x : goal.invariant-loop-x
invariant-loop-x l = l.words.items ≡ replicate l.front 0 ++ flat_map (λ (x : Opening). x.words.items
    ++ replicate l.rest 0) (take l.x-index l.values.items)
