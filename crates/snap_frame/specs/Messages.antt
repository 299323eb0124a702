-- Frames, and the payloads of requests and replies (docs/FORMATS.md, "Frames and messages").
use Rattle.std.specs.Prelude.{◌≡◌, ℕ, ◌+◌, ◌^◌, ◌<◌, ◌≤◌, Bool, true, false, List, [], ◌∷◌, ◌++◌, length, slice_get}
use Rattle.std.specs.Prelude.{flat_map, All, Some}
use Rattle.std.specs.Int.{w16, w32, w64, to_be_bytes}
use Rattle.snap_disk.specs.Refusal.{code_of}
use Rattle.snap_history.specs.Limits.{IsNumber, IsShort}
use Rattle.snap_history.specs.declared.limits.TheConstants.{MAX_COUNT, MAX_VALUE_LEN}
use Rattle.snap_frame.specs.declared.request.Request.TheVariants.{Update, Scan, Status, Part}
use Rattle.snap_frame.specs.declared.{frame.TheConstants.MAX_PAYLOAD, request.Request.Request, reply.Reply.Reply}
use Rattle.snap_frame.specs.declared.{entries.SegmentStatus.SegmentStatus, named.NamedValue.NamedValue}
use Rattle.snap_scan.specs.declared.segment_value.SegmentValue.{SegmentValue}
use Rattle.snap_frame.specs.declared.reply.Reply.TheVariants as replies

-- the most bytes of a frame's payload
abbrev pub max_payload : ℕ
max_payload = MAX_PAYLOAD

-- a payload after its length in four bytes
abbrev pub frame : List ℕ → List ℕ
frame x = to_be_bytes w32 (length x) ++ x

-- the payload of a request
abbrev pub payload : Request → List ℕ
payload (Update segment number value) = 1 ∷ segment ∷ (to_be_bytes w64 number ++ value)
payload Scan = 2 ∷ []
payload Status = 3 ∷ []
payload (Part set) = 4 ∷ to_be_bytes w16 set.bits

-- a scan of some segments names at least one of the sixteen; every other request may be asked
abbrev pub IsAskable : Request → Type 0
IsAskable (Update segment number value) = Unit {0}
IsAskable Scan = Unit {0}
IsAskable Status = Unit {0}
IsAskable (Part set) = (0 < set.bits) × (set.bits < 2 ^ 16)

-- x is the payload of the request
abbrev pub Asks : List ℕ → Request → Type 0
Asks x r = IsAskable r × (x ≡ payload r)

-- no request has this payload
abbrev pub Malformed : List ℕ → Type 0
Malformed x = (r : Request) → Asks x r → ⊥

-- a segment's number and value, as a snapshot has them
abbrev pub value_bytes : SegmentValue → List ℕ
value_bytes v = to_be_bytes w64 v.number ++ (to_be_bytes w32 (length v.value) ++ v.value)

-- a segment with its number and value, as a scan of some segments has them
abbrev pub named_bytes : NamedValue → List ℕ
named_bytes v = v.segment ∷ (to_be_bytes w64 v.number ++ (to_be_bytes w32 (length v.value) ++ v.value))

-- 1 if the segment is fenced, else 0
abbrev pub fence_byte : Bool → ℕ
fence_byte true = 1
fence_byte false = 0

-- a segment's number and fence, as a status has them
abbrev pub status_bytes : SegmentStatus → List ℕ
status_bytes s = to_be_bytes w64 s.number ++ (fence_byte s.is_fenced ∷ [])

-- the payload of a reply
abbrev pub says : Reply → List ℕ
says (replies.Stored number) = 0x81 ∷ to_be_bytes w64 number
says (replies.Snapshot values) = 0x82 ∷ length values.items ∷ flat_map value_bytes values.items
says (replies.Status statuses) = 0x83 ∷ length statuses.items ∷ flat_map status_bytes statuses.items
says (replies.Part values) = 0x84 ∷ length values.items ∷ flat_map named_bytes values.items
says (replies.Refused why detail) = 0xE0 ∷ code_of why ∷ to_be_bytes w64 detail

-- a number and a value that a reply may hold
abbrev pub IsValue : SegmentValue → Type 0
IsValue v = IsNumber v.number × IsShort v.value

abbrev pub IsStatus : SegmentStatus → Type 0
IsStatus s = IsNumber s.number

-- a segment that a file may have, with a number and a value that a reply may hold
abbrev pub IsNamedValue : NamedValue → Type 0
IsNamedValue v = (v.segment < MAX_COUNT) × IsNumber v.number × IsShort v.value

-- each entry's segment is above that of the one before it
abbrev pub Ascend : List NamedValue → Type 0
Ascend vs = (p : ℕ) (a b : NamedValue) → slice_get vs p ≡ Some a → slice_get vs (p + 1) ≡ Some b → a.segment < b.segment

-- no entry's bytes are a beginning of another's
pub record Separate {E : Type 0} (bytes : E → List ℕ) (MayStand : E → Type 0) : Type 0 where
  pub each : (d e : E) (a b : List ℕ) → MayStand d → MayStand e → bytes d ++ a ≡ bytes e ++ b → (d ≡ e) × (a ≡ b)

-- the most bytes of an entry: the segment, the number, the length and the value
abbrev pub longest_entry : ℕ
longest_entry = 13 + MAX_VALUE_LEN

-- at least one entry, each of which a reply may have, and no more than there may be segments
pub record AreEntries {E : Type 0} (MayStand : E → Type 0) (es : List E) : Type 0 where
  pub one : 1 ≤ length es
  pub few : length es ≤ MAX_COUNT
  pub each : All MayStand es

-- its numbers, lengths and counts are within the limits of replies
abbrev pub IsInLimits : Reply → Type 0
IsInLimits (replies.Stored number) = IsNumber number
IsInLimits (replies.Snapshot values) = AreEntries IsValue values.items
IsInLimits (replies.Status statuses) = AreEntries IsStatus statuses.items
IsInLimits (replies.Part values) = AreEntries IsNamedValue values.items × Ascend values.items
IsInLimits (replies.Refused why detail) = Unit {0}

-- x is the payload of the reply
abbrev pub Says : List ℕ → Reply → Type 0
Says x r = IsInLimits r × (x ≡ says r)

-- no reply has this payload
abbrev pub SaysNothing : List ℕ → Type 0
SaysNothing x = (r : Reply) → Says x r → ⊥
