use Rattle.std.proofs.Common.{◌≡◌, ◌++◌, [], take}
use Rattle.snap_order.specs.{Each.each_from, Documents.list_head, Documents.status_tokens}
use Rattle.snap_order.proofs.document.status_document.Given as goal

abbrev pub invariant-loop-index : goal.invariant-loop-index
invariant-loop-index l = (l.writer.tokens ≡ list_head ++ each_from status_tokens 0 (take l.index l.statuses))
    × (l.writer.before ≡ [])
