-- A complaint in a fixed buffer.
use Rattle.std.proofs.Common.{◌≡◌, ◌-◌, ℕ, List, length, drop, sym, Bool, true, false, not, nat_eq, Option, Some, None}
use Rattle.std.proofs.Common.{IfSome, inl, inr, codes}
use Rattle.std.specs.Cmp.Lexicographic.{pointwise, same_text, other_text}
use Rattle.std.specs.{Fmt.Cut.IsTextOrCut, Io.KnownBytes.Appends}
use Rattle.snap_order.specs.{declared.complaint.TheConstants.IN_PLACE, Streams.Complains, Streams.complaint_line}
use Rattle.snap_order.proofs.Lines.{whole_is}

-- whether the last three bytes are dots, as `ends_with` computes it
abbrev dotted : List ℕ → Bool
dotted text = pointwise nat_eq (codes "...") (drop (length text - 3) text)

-- the line of the text that fitted was written
pub told_in_place : (known old new : Option (List ℕ)) (text : List ℕ) (is_cut : Bool)
    → IfSome known (λ bytes. IsTextOrCut IN_PLACE bytes text) → is_cut ≡ dotted text
    → Appends old new (complaint_line text) → Complains known (not is_cut) old new
told_in_place known old new text true is dots came =
    let cut = sym (same_text (codes "...") (drop (length text - 3) text) dots) in
    (text, inr (cut, whole_is old new (complaint_line text) came))
told_in_place None old new text false is dots came = (text, tt, came)
told_in_place (Some bytes) old new text false is dots came = elim is [
  | inl same ↦ (text, same, came)
  | inr cut ↦ absurd (other_text (codes "...") (drop (length text - 3) text) dots (sym cut))
]
