-- The first frame of the bytes is unique.
use Rattle.std.proofs.Common.{◌≡◌, ◌≢◌, ℕ, List, ◌++◌, [], length, Option, Some, None, Result, Ok, Err, inl, inr, refl}
use Rattle.std.proofs.Common.{sym, ◌∙◌, ap, arith, append_assoc, length-append, take, drop, take_at}
use Rattle.std.proofs.Common.{drop_at}
use Rattle.std.specs.{Int.w32, Int.to_be_bytes, declared.io.Error.Error}
use Rattle.bytes.specs.Filled.{Filled}
use Rattle.tokio_util.specs.declared.codec.length_delimited.DecodeState.TheVariants.{Head, Data}
use Rattle.tokio_util.specs.Codec.LengthDelimited.{Cut, frame, too_big, overflows, unfinished, cut, Answers}
use Rattle.tokio_util.specs.Codec.LengthDelimited.{AnswersLast, AnswersAtEnd, gives_frames}
use Rattle.tokio_util.specs.declared.codec.length_delimited.LengthDelimitedCodec.{LengthDelimitedCodec}
use Rattle.tokio_util.specs.{declared.codec.length_delimited.DecodeState.DecodeState, Codec.Next.DecodesAtEnd}
use Rattle.snap_frame.specs.Stream.{HasFrame, pending, pending_in, Ready, IsBytes}
use Rattle.snap_frame.proofs.{BigEndian.same_length, Cuts.Means, Decode.means}
use Rattle.snap_frame.specs.Messages as messages

pub append_split : (x y r s : List ℕ) → length x ≡ length y → x ++ r ≡ y ++ s → (x ≡ y) × (r ≡ s)
append_split x y r s len e = (
  sym (take_at x r (length x) refl) ∙ ap (take (length x)) e ∙ take_at y s (length x) (sym len),
  sym (drop_at x r (length x) refl) ∙ ap (drop (length x)) e ∙ drop_at y s (length x) (sym len),
)

pub same_frame : (held x y r s : List ℕ) → HasFrame held x r → HasFrame held y s → (x ≡ y) × (r ≡ s)
same_frame held x y r s one two =
    let e : to_be_bytes w32 (length x) ++ (x ++ r) ≡ to_be_bytes w32 (length y) ++ (y ++ s) =
    sym (append_assoc (to_be_bytes w32 (length x)) x r) ∙ sym one.split ∙ two.split
    ∙ append_assoc (to_be_bytes w32 (length y)) y s in
    let same = same_length (length x) (length y) (x ++ r) (y
    ++ s) (omega (arith, one.fits)) (omega (arith, two.fits)) e in
    append_split x y r s same.0 same.1

head_of : (state : DecodeState) (kept : List ℕ) → pending_in state kept ≡ [] → (state ≡ Head) × (kept ≡ [])
head_of Head kept none = (refl, none)
head_of (Data n) kept none = absurd (omega (arith, ap length none, length-append (to_be_bytes w32 n) kept))

last_by : (state : DecodeState) (kept held : List ℕ) (r : Result (Option Filled) Error) → pending_in state kept ≡ held
    → AnswersLast state kept r → (r ≡ Ok None → held ≡ []) × (held ≡ [] → r ≡ Ok None)
last_by state kept held (Ok None) same told = (λ _. sym same ∙ ap (λ s. pending_in s kept) told.0 ∙ told.1, λ _. refl)
last_by state kept held (Ok (Some b)) same told = absurd told
last_by state kept held (Err e) same told =
    (λ wrong. absurd cc, λ none. absurd (told.1 (head_of state kept (same ∙ none))))

end_by : (s : DecodeState) (c t : LengthDelimitedCodec) (ys : List ℕ) (v : Cut)
    (r : Result (Option Filled) Error) → Means (pending_in s []) v → AnswersAtEnd c v r t ys
    → (r ≡ Ok None → pending_in s [] ≡ []) × (pending_in s [] ≡ [] → r ≡ Ok None)
end_by s c t ys (frame p k) r means told = absurd told
end_by s c t ys too_big r means told = absurd told
end_by s c t ys overflows r means told = absurd told
end_by s c t ys (unfinished state kept) r means told = last_by state kept (pending_in s []) r means.0 told.0

done_by : (s : DecodeState) (c t : LengthDelimitedCodec) (xs ys : List ℕ) (v : Cut) (r : Result Filled Error)
    → Means (pending_in s []) v → Answers c xs v r t ys → pending_in s [] ≢ []
done_by s c t xs ys (frame p k) r means told = λ none. absurd (omega (
  arith,
  ap length means.split,
  ap length none,
  length-append (messages.frame p) k,
  length-append (to_be_bytes w32 (length p)) p,
))
done_by s c t xs ys too_big r means told =
    λ none. absurd (omega (arith, ap length means.4, ap length none, length-append (to_be_bytes w32 means.0) means.1))
done_by s c t xs ys overflows r means told = absurd means
done_by s c t xs ys (unfinished state kept) r means told = absurd told

none_bytes : IsBytes []
none_bytes i = omega arith

pub at_end : (c t : LengthDelimitedCodec) (ys : List ℕ) (r : Result (Option Filled) Error) → Ready c
    → DecodesAtEnd gives_frames c [] r t ys → (r ≡ Ok None → pending c [] ≡ []) × (pending c [] ≡ [] → r ≡ Ok None)
at_end c t ys r ready = by (means c [] ready.layout ready.fits none_bytes) r
  where
    by : Means (pending c []) (cut c []) → (r : Result (Option Filled) Error) → DecodesAtEnd gives_frames c [] r t ys
        → (r ≡ Ok None → pending c [] ≡ []) × (pending c [] ≡ [] → r ≡ Ok None)
    by means (Ok None) told = end_by c.state c t ys (cut c []) (Ok None) means told
    by means (Ok (Some b)) (inl told) =
        (λ wrong. absurd cc, λ none. absurd (done_by c.state c t [] ys (cut c []) (Ok b) means told none))
    by means (Ok (Some b)) (inr told) = end_by c.state c t ys (cut c []) (Ok (Some b)) means told
    by means (Err e) (inl told) =
        (λ wrong. absurd cc, λ none. absurd (done_by c.state c t [] ys (cut c []) (Err e) means told none))
    by means (Err e) (inr told) = end_by c.state c t ys (cut c []) (Err e) means told
