-- The lines of a stored number and of the values and statuses of a reply (docs/FORMATS.md).
use Rattle.std.specs.Prelude.{◌≡◌, ℕ, Bool, true, false, List, [], ◌∷◌, ◌++◌, codes, flat_map}
use Rattle.std.specs.{List.list_any, Fmt.decimal}
use Rattle.snap_frame.specs.declared.reply.Reply.TheVariants.{Snapshot, Part, Status}
use Rattle.snap_frame.specs.{declared.reply.Reply.Reply, segment_value.SegmentValue.SegmentValue}
use Rattle.snap_frame.specs.{declared.entries.SegmentStatus.SegmentStatus, declared.named.NamedValue.NamedValue}
use Rattle.snap_order.specs.Hex.{hex_text}
use Rattle.snap_order.specs.Each.{each_from}
use Rattle.snap_order.specs.declared.order.{OutputFormat.OutputFormat, OutputFormat.TheVariants.Lines}
use Rattle.snap_order.specs.declared.order.{CallRequest.CallRequest, CallRequest.TheVariants.Health}

-- a text with a line feed at its end
abbrev pub line : List ℕ → List ℕ
line text = text ++ (10 ∷ [])

abbrev pub stored_line : ℕ → List ℕ
stored_line k = line (codes "stored " ++ decimal k)

-- the beginning of segment i's line
abbrev pub segment_text : ℕ → ℕ → List ℕ
segment_text i k = codes "segment " ++ (decimal i ++ (codes " number " ++ decimal k))

-- the line of segment i's number and value
abbrev pub value_text : (i k : ℕ) → List ℕ → List ℕ
value_text i k bytes = line (segment_text i k ++ (codes " value " ++ hex_text bytes))

-- the line of the entry at place i of a snapshot
abbrev pub value_line : ℕ → SegmentValue → List ℕ
value_line i v = value_text i v.number v.value

-- the line of an entry that names its segment
abbrev pub named_line : NamedValue → List ℕ
named_line v = value_text v.segment v.number v.value

abbrev pub fence_text : Bool → List ℕ
fence_text true = codes "1"
fence_text false = codes "0"

-- the line of segment i's number and fence
abbrev pub status_line : ℕ → SegmentStatus → List ℕ
status_line i s = line (segment_text i s.number ++ (codes " fenced " ++ fence_text s.is_fenced))

-- the text has each value or status of the reply under its own segment and number, in order
abbrev pub ShowsEach : Reply → List ℕ → Type 0
ShowsEach (Snapshot values) text = text ≡ each_from value_line 0 values.items
ShowsEach (Part values) text = text ≡ flat_map named_line values.items
ShowsEach (Status statuses) text = text ≡ each_from status_line 0 statuses.items
ShowsEach reply text = Unit {0}

-- the text has each value or status of the reply to the call's request; only tests say what a health call prints
abbrev pub ShowsValues : CallRequest → Reply → List ℕ → Type 0
ShowsValues Health (Status statuses) text = Unit {0}
ShowsValues question reply text = ShowsEach reply text

-- it does if the output format is lines; only tests say what other texts have
abbrev pub Shows : OutputFormat → CallRequest → Reply → List ℕ → Type 0
Shows layout question reply text = layout ≡ Lines → ShowsValues question reply text

abbrev pub is_any_fenced : List SegmentStatus → Bool
is_any_fenced statuses = list_any (λ s. s.is_fenced) statuses
