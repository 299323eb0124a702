-- Bytes that are read or written part by part.
use Rattle.std.proofs.Common.{◌≡◌, ℕ, ◌+◌, ◌-◌, ◌≤◌, List, ◌++◌, length, take, drop, sym, ◌∙◌, ap, length-drop, drop_at}
use Rattle.std.proofs.Common.{length-take-le, le_refl, append-nil, Option, Some, None}
use Rattle.std.proofs.{Math.Seq.take-length, Math.Seq.take-add, lemmas.Slice.take-put_mid_below}
use Rattle.std.specs.Io.KnownBytes.{Consumes, IsAtEnd}
use Rattle.snap_order.specs.Streams.{Had}
use borrow.Rule.Slice.PartMut.{put_mid, post_of}
use lib.Seq.{take-append-le}

-- the bytes from i on, as `&xs[i..]`
rest_is : (i : ℕ) (xs : List ℕ) → take (length xs - i) (drop i xs) ≡ drop i xs
rest_is i xs = ap (λ k. take k (drop i xs)) (sym (length-drop i xs)) ∙ take-length (drop i xs)

-- the first i bytes, followed by n of `&xs[i..]`
pub take_on : (i n : ℕ) (xs : List ℕ) → take i xs ++ take n (take (length xs - i) (drop i xs)) ≡ take (i + n) xs
take_on i n xs = ap (λ ys. take i xs ++ take n ys) (rest_is i xs) ∙ sym (take-add i n xs)

-- the first i bytes, followed by n that were put after them
pub take_put : (i k n : ℕ) (xs ys : List ℕ) → i ≤ length xs → n ≤ length ys
    → take i xs ++ take n ys ≡ take (i + n) (put_mid i k xs ys)
take_put i k n xs ys within fits =
    let front : take i (put_mid i k xs ys) ≡ take i xs = take-put_mid_below i k xs ys i (le_refl i) within in
    let behind : take n (drop i (put_mid i k xs ys)) ≡ take n ys =
    ap (take n) (drop_at (take i xs) (ys ++ post_of i k xs) i (length-take-le i xs within))
    ∙ take-append-le n ys (post_of i k xs) fits in
    sym (take-add i n (put_mid i k xs ys) ∙ ap (λ l. l ++ take n (drop i (put_mid i k xs ys))) front
    ∙ ap (λ l. take i xs ++ l) behind)

-- a reader at its end had exactly the bytes that it gave
pub had : (old new : Option (List ℕ)) (v : List ℕ) → Consumes old new v → IsAtEnd new → Had old v
had None new v came ended = tt
had (Some xs) None v came ended = absurd came
had (Some xs) (Some ys) v came ended = came ∙ ap (λ l. v ++ l) ended ∙ append-nil v
