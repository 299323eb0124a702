-- The text of a report.
use Rattle.std.specs.Prelude.{ℕ, ◌+◌, Bool, true, false, List, [], ◌∷◌, ◌++◌, length, codes}
use Rattle.std.specs.Fmt.{decimal}
use Rattle.snap_segment.specs.Text.{line}
use Rattle.snap_restart.specs.declared.report.{Recovered.Recovered, Report.Report}

abbrev pub spare_text : Bool → List ℕ
spare_text true = codes "open"
spare_text false = codes "closed"

-- the text about segment i
abbrev pub recovered_text : ℕ → Recovered → List ℕ
recovered_text i s = codes "segment " ++ (decimal i ++ (codes " number " ++ (decimal s.number ++
    (codes " length " ++ (decimal s.length ++ (codes " spare " ++ spare_text s.spare_open))))))

-- the lines of the segments from i on
abbrev pub lines_text : ℕ → List Recovered → List ℕ
lines_text i [] = []
lines_text i (s ∷ segments) = line (recovered_text i s) ++ lines_text (i + 1) segments

-- a line for each segment, and one with their count
abbrev pub report_text : Report → List ℕ
report_text report = lines_text 0 report.segments.items
    ++ line (codes "segments " ++ decimal (length report.segments.items))
