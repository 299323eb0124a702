use Rattle.std.proofs.Common.{◌≡◌, ◌++◌, ◌∷◌, [], codes, false, take}
use Rattle.json.specs.Token.{begin_array, key}
use Rattle.snap_order.specs.{Each.each_from, Documents.fence_tokens, Documents.health_tokens}
use Rattle.snap_order.proofs.document.health_document.Given as goal

abbrev pub invariant-loop-index : goal.invariant-loop-index
invariant-loop-index l = (l.writer.tokens ≡ (health_tokens false ++ key (codes "fenced") ∷ begin_array ∷ [])
    ++ each_from fence_tokens 0 (take l.index l.statuses)) × (l.writer.before ≡ [])
