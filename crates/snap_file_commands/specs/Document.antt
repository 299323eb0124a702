-- A dump as a document (docs/FORMATS.md, "A dump"), byte for byte.
use Rattle.std.specs.Prelude.{◌≡◌, ℕ, ◌≤◌, List, [], ◌∷◌, ◌++◌, length, All, codes, nat_lt, if◌then◌else◌}
use Rattle.std.specs.Fmt.{decimal}
use Rattle.hex.specs.Hex.{encode_lower}
use Rattle.json.specs.{Print.print, Written.Written}
use Rattle.json.specs.Token.{Token, begin_array, begin_object, end_array, end_object, key, number, string}
use Rattle.sha2.specs.Sha256.{sha256}
use Rattle.snap_history.specs.{declared.limits.TheConstants.MAX_COUNT, Limits.IsNumber, Limits.IsShort}
use Rattle.snap_scan.specs.declared.segment_value.SegmentValue.{SegmentValue}
use Rattle.snap_order.specs.{Documents.line_of, Documents.value_tokens, Each.each_from}

-- the first line: the format's name and version, the time at which the values were current, the number of segments, and
-- the beginning of their list
abbrev pub head_tokens : (time : List ℕ) → (count : ℕ) → List Token
head_tokens time count =
    begin_object ∷ key (codes "format") ∷ string (codes "snapd dump") ∷ key (codes "version") ∷ number (decimal 1)
    ∷ key (codes "time") ∷ string time ∷ key (codes "count") ∷ number (decimal count) ∷ key (codes "segments")
    ∷ begin_array ∷ []

-- the comma that ends the line before segment i's, if that is a segment's too
abbrev pub comma_before : ℕ → List ℕ
comma_before i = if nat_lt 0 i then codes "," else []

-- the line of segment i, after the end of the line before it
abbrev pub row : ℕ → SegmentValue → List ℕ
row i v = comma_before i ++ (10 ∷ print (value_tokens i v))

-- all lines but the last: the first one, and one for each segment, in order
abbrev pub body : (time : List ℕ) → List SegmentValue → List ℕ
body time values = print (head_tokens time (length values)) ++ (each_from row 0 values ++ 10 ∷ [])

-- the last line, which has the SHA-256 of the lines before it
abbrev pub last_tokens : (digest : List ℕ) → List Token
last_tokens digest = end_array ∷ key (codes "sha256") ∷ string digest ∷ end_object ∷ []

-- a writer wrote these tokens
abbrev pub Adds : (old new : Written) → List Token → Type 0
Adds old new ts = (new.before ≡ old.before) × (new.tokens ≡ old.tokens ++ ts)

-- the document of these values at this time
abbrev pub dump_text : (time : List ℕ) → List SegmentValue → List ℕ
dump_text time values = body time values ++ line_of (last_tokens (encode_lower (sha256 (body time values))))

-- a number and a value within the limits of a segment
abbrev pub IsKeepable : SegmentValue → Type 0
IsKeepable v = IsNumber v.number × IsShort v.value

-- a server can have these values: they are 1 to 16, each within the limits of a segment
pub record AreServable (values : List SegmentValue) : Type 0 where
  pub some : 1 ≤ length values
  pub few : length values ≤ MAX_COUNT
  pub each : All IsKeepable values
