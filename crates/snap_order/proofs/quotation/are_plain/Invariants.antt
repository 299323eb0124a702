use Rattle.std.proofs.Common.{◌≡◌, false, drop}
use Rattle.snap_order.specs.Quotation.{are_plain}
use Rattle.snap_order.proofs.quotation.are_plain.Given as goal

abbrev pub invariant-loop-byte : goal.invariant-loop-byte
invariant-loop-byte l = are_plain false l.bytes ≡ are_plain l.is_behind (drop l.byte-index l.bytes)
