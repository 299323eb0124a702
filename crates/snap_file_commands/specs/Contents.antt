-- The file by the result of reading it for a dump.
use Rattle.std.specs.Prelude.{ℕ, Result, Ok, Err}
use Rattle.snap_disk.specs.{Device.Device, declared.refusal.Refusal.Refusal}
use Rattle.snap_slot.specs.{Findings.IsNoOpening, Layout.Head, Layout.Holds}
use Rattle.snap_scan.specs.declared.segment_value.SegmentValue.{SegmentValue}

-- the file is that of segment i of n, and holds this number and value; or why it can't be opened
abbrev pub Reads : (honest : Type 0) (i n : ℕ) (old : Device) → Result SegmentValue Refusal → Type 0
Reads honest i n old (Ok v) = honest → Head old.bytes i n × Holds old.bytes v.number v.value
Reads honest i n old (Err why) = honest → IsNoOpening i n old.bytes why
