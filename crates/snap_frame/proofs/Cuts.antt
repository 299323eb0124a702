-- A cut of the codec, as a property of the bytes held.
use Rattle.std.proofs.Common.{◌≡◌, ℕ, ◌+◌, ◌<◌, ◌≤◌, ◌^◌, List, ◌∷◌, ◌++◌, [], length, take, drop, Some, inl, inr, refl}
use Rattle.std.proofs.Common.{sym, ◌∙◌, ap, subst, arith, append_assoc, length-append, length-take, length-drop, pos}
use Rattle.std.proofs.lemmas.Bool.{cases_lt, cond-true, lt-ltb}
use Rattle.std.{specs.Int.w32, specs.Int.to_be_bytes, proofs.lemmas.List.take-append-drop, proofs.lemmas.Nat.be_bytes_4}
use Rattle.tokio_util.specs.Codec.LengthField.{field_value, add_adjustment}
use Rattle.tokio_util.specs.Codec.LengthDelimited.{Cut, frame, too_big, overflows, unfinished, cut_payload}
use Rattle.tokio_util.specs.Codec.LengthDelimited.{cut_adjusted, cut_frame}
use Rattle.tokio_util.specs.Codec.LengthDelimitedLaws.{cut_payload_whole, cut_payload_short, cut_frame_short}
use Rattle.tokio_util.specs.Codec.LengthDelimitedLaws.{cut_frame_big, cut_frame_head}
use Rattle.snap_frame.specs.Stream.{HasFrame, HasLongLength, IsPartial, pending_in, StateFits, feed_layout, IsBytes}
use Rattle.snap_frame.proofs.BigEndian.{bytes-take, same_length}
use Rattle.snap_frame.specs.Messages as messages

-- the property of the bytes held
abbrev pub Means : List ℕ → Cut → Type 0
Means held (frame payload rest) = HasFrame held payload rest
Means held too_big = HasLongLength held
Means held overflows = ⊥
Means held (unfinished state kept) = (pending_in state kept ≡ held) × StateFits state × IsPartial held

-- no whole frame after a length
short_is_partial : (n : ℕ) (ys : List ℕ) → n ≤ messages.max_payload → length ys < n
    → IsPartial (to_be_bytes w32 n ++ ys)
short_is_partial n ys fits short = record {
  no_frame = λ x rest has.
      let same = same_length n (length x) ys (x ++ rest) (omega arith) (omega (arith, has.fits))
      (has.split ∙ append_assoc (to_be_bytes w32 (length x)) x rest) in
      absurd (omega (arith, same.0, ap length same.1, length-append x rest));
  no_long = λ long.
      let same = same_length n long.0 ys long.1 (omega arith) long.3 long.4 in
      absurd (omega (arith, same.0, long.2));
}

-- a whole frame after one
frame_first : (n : ℕ) (ys : List ℕ) → n ≤ messages.max_payload → n ≤ length ys
    → HasFrame (to_be_bytes w32 n ++ ys) (take n ys) (drop n ys)
frame_first n ys fits whole =
    let len : length (take n ys) ≡ n = omega (arith, length-take n ys) in
    record {
      fits = omega (arith, len);
      split = ap (λ zs. to_be_bytes w32 n ++ zs) (sym (take-append-drop n ys))
          ∙ sym (append_assoc (to_be_bytes w32 n) (take n ys) (drop n ys))
          ∙ ap (λ k. to_be_bytes w32 k ++ take n ys ++ drop n ys) (sym len);
    }

pub payload_means : (n : ℕ) (ys : List ℕ) → n ≤ messages.max_payload
    → Means (to_be_bytes w32 n ++ ys) (cut_payload n ys)
payload_means n ys fits =
    let held = to_be_bytes w32 n ++ ys in
    elim (cases_lt (length ys) n) [
      | inl short ↦ subst (Means held) (sym (cut_payload_short n ys short))
          (refl, fits, short_is_partial n ys fits short)
      | inr whole ↦ subst (Means held) (sym (cut_payload_whole n ys whole)) (frame_first n ys fits whole)
    ]

pub tiny_is_partial : (xs : List ℕ) → length xs < 4 → IsPartial xs
tiny_is_partial xs tiny = record {
  no_frame = λ x rest has. absurd (omega (
    arith,
    ap length has.split,
    length-append (messages.frame x) rest,
    length-append (to_be_bytes w32 (length x)) x,
  ));
  no_long = λ long. absurd (omega (arith, ap length long.4, length-append (to_be_bytes w32 long.0) long.1));
}

-- the length in the first four bytes
first_four : (xs : List ℕ) → IsBytes xs → 4 ≤ length xs
    → (to_be_bytes w32 (field_value feed_layout xs) ++ drop 4 xs ≡ xs) × (field_value feed_layout xs < 2 ^ 32)
first_four [] bytes long = absurd (omega arith)
first_four (a ∷ []) bytes long = absurd (omega arith)
first_four (a ∷ b ∷ []) bytes long = absurd (omega arith)
first_four (a ∷ b ∷ c ∷ []) bytes long = absurd (omega arith)
first_four (a ∷ b ∷ c ∷ d ∷ xs) bytes long =
    let front = a ∷ b ∷ c ∷ d ∷ [] in
    let each : IsBytes front = bytes-take 4 (a ∷ b ∷ c ∷ d ∷ xs) bytes in (
      ap (λ zs. zs ++ xs) (be_bytes_4 front _ refl each (omega arith)),
      omega (arith, each 0, each 1, each 2, each 3),
    )

-- with no whole frame first, and no length above the limit, fewer bytes are held than a frame may have
pub partial_is_short : (xs : List ℕ) → IsBytes xs → IsPartial xs → length xs < 4 + messages.max_payload
partial_is_short xs bytes part =
    elim (cases_lt (length xs) (4 + messages.max_payload)) [
      | inl short ↦ short
      | inr long ↦
          let n = field_value feed_layout xs in
          let first = first_four xs bytes (omega arith) in
          elim (cases_lt messages.max_payload n) [
            | inl big ↦ absurd (part.no_long (n, drop 4 xs, big, first.1, sym first.0))
            | inr fits ↦
                let ys = drop 4 xs in
                let whole : n ≤ length ys = omega (arith, length-drop 4 xs) in
                absurd (part.no_frame (take n ys) (drop n ys)
                (subst (λ held. HasFrame held (take n ys) (drop n ys)) first.0
                (frame_first n ys fits whole)))
          ]
    ]

pub head_means : (xs : List ℕ) → IsBytes xs → Means xs (cut_frame feed_layout xs)
head_means xs bytes =
    elim (cases_lt (length xs) 4) [
      | inl tiny ↦ subst (Means xs) (sym (cut_frame_short feed_layout xs tiny)) (refl, tt, tiny_is_partial xs tiny)
      | inr long ↦
          let v = field_value feed_layout xs in
          let first = first_four xs bytes long in
          elim (cases_lt messages.max_payload v) [
            | inl big ↦ subst (Means xs) (sym (cut_frame_big feed_layout xs long big))
                (v, drop 4 xs, big, first.1, sym first.0)
            | inr small ↦
                let fits : add_adjustment v (pos 0) ≡ Some v = cond-true _ _ _ (lt-ltb (v + 0) (2 ^ 64) (omega arith))
                ∙ ap Some (omega arith) in
                let is : cut_frame feed_layout xs ≡ cut_payload v (drop 4 xs) = cut_frame_head feed_layout xs long small
                ∙ ap (λ o. cut_adjusted o (drop 4 xs)) fits in
                subst (Means xs) (sym is)
                (subst (λ held. Means held (cut_payload v (drop 4 xs))) first.0
                (payload_means v (drop 4 xs) small))
          ]
    ]
