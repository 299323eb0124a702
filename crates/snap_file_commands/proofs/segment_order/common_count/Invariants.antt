use Rattle.std.proofs.Common.{◌≤◌, All, take}
use Rattle.snap_history.specs.declared.limits.TheConstants.{MAX_COUNT}
use Rattle.snap_file_commands.specs.SegmentOrder.{IsOneOf}
use Rattle.snap_file_commands.proofs.segment_order.common_count.Given as goal

-- the headers of the files so far have the count of the first one
abbrev pub invariant-loop-file : goal.invariant-loop-file
invariant-loop-file l = All (λ p. IsOneOf l.first.count p × (p.count ≤ MAX_COUNT)) (take l.file l.places)
