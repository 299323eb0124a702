use Rattle.std.proofs.Common.{◌≢◌, ◌<◌, ℕ}
use Rattle.snap_file_commands.specs.SegmentName.{name_of}
use Rattle.snap_file_commands.proofs.segment_name.is_further.Given as goal

-- it is none of the names so far
abbrev pub invariant-loop-index : goal.invariant-loop-index
invariant-loop-index l = (i : ℕ) → i < l.index → l.name ≢ name_of i
