use Rattle.std.proofs.Common.{◌≡◌, ◌++◌, [], flat_map, take}
use Rattle.snap_order.specs.Documents.{list_head, named_tokens}
use Rattle.snap_order.proofs.document.part_document.Given as goal

abbrev pub invariant-loop-value : goal.invariant-loop-value
invariant-loop-value l = (l.writer.tokens ≡ list_head ++ flat_map named_tokens (take l.value-index l.values))
    × (l.writer.before ≡ [])
