use Rattle.std.proofs.Common.{◌≡◌, ◌++◌, [], take}
use Rattle.snap_order.specs.{Each.each_from, Documents.list_head, Documents.value_tokens}
use Rattle.snap_order.proofs.document.scan_document.Given as goal

abbrev pub invariant-loop-index : goal.invariant-loop-index
invariant-loop-index l = (l.writer.tokens ≡ list_head ++ each_from value_tokens 0 (take l.index l.values))
    × (l.writer.before ≡ [])
