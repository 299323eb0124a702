-- One segment in the answer of a scan.
use Rattle.std.specs.Prelude.{ℕ, List}
use Rattle.snap_scan.specs.declared.segment_value.SegmentValue.{SegmentValue}

-- the number and the value of an entry
abbrev pub pair_of : SegmentValue → ℕ × List ℕ
pair_of s = (s.number, s.value)
