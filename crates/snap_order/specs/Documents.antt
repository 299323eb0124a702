-- The JSON documents of values, statuses and health (docs/FORMATS.md, "JSON"), by their tokens.
use Rattle.std.specs.Prelude.{ℕ, Bool, true, false, List, [], ◌∷◌, ◌++◌, codes, if◌then◌else◌}
use Rattle.std.specs.{List.list_any, Fmt.decimal, Str.is_utf8}
use Rattle.base64.specs.{Engines.standard, GeneralPurpose.encode_of}
use Rattle.json.specs.Print.{print}
use Rattle.json.specs.Token.{Token, begin_object, end_object, begin_array, end_array, key, string, number, boolean}
use Rattle.snap_frame.specs.declared.{entries.SegmentStatus.SegmentStatus, named.NamedValue.NamedValue}
use Rattle.snap_frame.specs.segment_value.SegmentValue.{SegmentValue}
use Rattle.snap_order.specs.Each.{each_from}

-- the bytes as `text` if they are UTF-8, and else as `base64`
abbrev pub bytes_tokens : List ℕ → List Token
bytes_tokens bytes = if is_utf8 bytes then key (codes "text") ∷ string bytes ∷ []
    else key (codes "base64") ∷ string (encode_of standard bytes) ∷ []

-- the beginning of segment i's object
abbrev pub head_tokens : ℕ → ℕ → List Token
head_tokens i k = begin_object ∷ key (codes "segment") ∷ number (decimal i) ∷ key (codes "number") ∷ number (decimal k)
    ∷ []

-- the object of segment i's value
abbrev pub entry_tokens : (i k : ℕ) → List ℕ → List Token
entry_tokens i k bytes = head_tokens i k ++ (bytes_tokens bytes ++ end_object ∷ [])

-- the object of the entry at place i of a snapshot
abbrev pub value_tokens : ℕ → SegmentValue → List Token
value_tokens i v = entry_tokens i v.number v.value

-- the object of an entry that names its segment
abbrev pub named_tokens : NamedValue → List Token
named_tokens v = entry_tokens v.segment v.number v.value

-- the object of segment i's status
abbrev pub status_tokens : ℕ → SegmentStatus → List Token
status_tokens i s = head_tokens i s.number ++ (key (codes "fenced") ∷ boolean s.is_fenced ∷ end_object ∷ [])

-- the index of segment i, if it is fenced
abbrev pub fence_tokens : ℕ → SegmentStatus → List Token
fence_tokens i s = if s.is_fenced then number (decimal i) ∷ [] else []

-- a document on one line
abbrev pub line_of : List Token → List ℕ
line_of tokens = print tokens ++ 10 ∷ []

-- the beginning of a document with a list of segments
abbrev pub list_head : List Token
list_head = begin_object ∷ key (codes "segments") ∷ begin_array ∷ []

-- the document with a list of segments
abbrev pub list_text : List Token → List ℕ
list_text tokens = line_of (list_head ++ (tokens ++ end_array ∷ end_object ∷ []))

-- the beginning of a document of a server's health
abbrev pub health_tokens : Bool → List Token
health_tokens b = begin_object ∷ key (codes "healthy") ∷ boolean b ∷ []

abbrev pub healthy_text : List ℕ
healthy_text = line_of (health_tokens true ++ end_object ∷ [])

abbrev pub fenced_text : List SegmentStatus → List ℕ
fenced_text statuses = line_of (health_tokens false ++ (key (codes "fenced") ∷ begin_array
    ∷ (each_from fence_tokens 0 statuses ++ end_array ∷ end_object ∷ [])))

-- the document of a server's health: no segment is fenced, or these are
abbrev pub health_text : List SegmentStatus → List ℕ
health_text statuses = if list_any (λ s. s.is_fenced) statuses then fenced_text statuses else healthy_text
