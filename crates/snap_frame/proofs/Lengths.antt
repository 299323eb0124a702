-- The lengths of replies' payloads.
use Rattle.std.proofs.Common.{◌+◌, ◌*◌, ◌≤◌, ℕ, List, [], ◌∷◌, length, flat_map, All, arith, length-append}
use Rattle.std.proofs.lemmas.List.Elements.{All-tail}
use Rattle.snap_scan.specs.declared.segment_value.SegmentValue.{SegmentValue}
use Rattle.snap_frame.specs.declared.reply.Reply.TheVariants.{Stored, Snapshot, Status, Part, Refused}
use Rattle.snap_frame.specs.Messages.{max_payload, longest_entry, value_bytes, named_bytes, status_bytes, IsValue}
use Rattle.snap_frame.specs.Messages.{IsNamedValue, IsStatus, AreEntries, says, IsInLimits}
use Rattle.snap_frame.specs.declared.{entries.SegmentStatus.SegmentStatus, named.NamedValue.NamedValue}
use Rattle.snap_frame.specs.declared.reply.Reply.{Reply}

-- entries of at most `longest_entry` bytes each
module _ {E : Type 0} (bytes : E → List ℕ) (MayStand : E → Type 0)
    (fits : (e : E) → MayStand e → length (bytes e) ≤ longest_entry) where
  entries_fit : (es : List E) → All MayStand es → length (flat_map bytes es) ≤ longest_entry * length es
  entries_fit [] each = omega arith
  entries_fit (e ∷ es) each = omega (
    arith,
    length-append (bytes e) (flat_map bytes es),
    fits e (each 0 e (omega arith)),
    entries_fit es (All-tail MayStand e es each),
  )

  list_fits : (es : List E) → AreEntries MayStand es → 2 + length (flat_map bytes es) ≤ max_payload
  list_fits es are = omega (arith, are.few, entries_fit es are.each)

value_fits : (v : SegmentValue) → IsValue v → length (value_bytes v) ≤ longest_entry
value_fits v may = omega (arith, may.1)

named_fits : (v : NamedValue) → IsNamedValue v → length (named_bytes v) ≤ longest_entry
named_fits v may = omega (arith, may.2)

status_fits : (s : SegmentStatus) → IsStatus s → length (status_bytes s) ≤ longest_entry
status_fits s may = omega arith

-- the payload of a reply fits a frame
pub says_fits : (r : Reply) → IsInLimits r → length (says r) ≤ max_payload
says_fits (Stored number) limits = omega arith
says_fits (Snapshot values) limits = omega (arith, list_fits value_bytes IsValue value_fits values.items limits)
says_fits (Status statuses) limits = omega (arith, list_fits status_bytes IsStatus status_fits statuses.items limits)
says_fits (Part values) limits = omega (arith, list_fits named_bytes IsNamedValue named_fits values.items limits.0)
says_fits (Refused why detail) limits = omega arith
