-- The rest of a write.
use Rattle.std.proofs.Common.{◌≡◌, ℕ, ◌+◌, ◌-◌, List, ◌++◌, length, take, drop, sym, ◌∙◌, ap, length-drop}
use Rattle.std.proofs.Math.Seq.{take-length, take-add}

-- the items from i on, as `&xs[i..]`
rest_is : (i : ℕ) (xs : List ℕ) → take (length xs - i) (drop i xs) ≡ drop i xs
rest_is i xs = ap (λ k. take k (drop i xs)) (sym (length-drop i xs)) ∙ take-length (drop i xs)

-- the first i bytes, and then n of `&xs[i..]`
pub take_on : (i n : ℕ) (xs : List ℕ) → take i xs ++ take n (take (length xs - i) (drop i xs)) ≡ take (i + n) xs
take_on i n xs = ap (λ ys. take i xs ++ take n ys) (rest_is i xs) ∙ sym (take-add i n xs)
