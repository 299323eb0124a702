-- Numbers that are raised, index by index.
use Rattle.std.proofs.Common.{◌≡◌, ℕ, zero, suc, ◌<◌, List, [], ◌∷◌, length, get_or, refl, sym, ◌∙◌, ap, arith}
use Rattle.std.proofs.lemmas.List.{ext_get_or}
use Rattle.snap_service.specs.metrics.Numbers.{raised, raised_each}

length-raised_each : (xs ys : List ℕ) → length (raised_each xs ys) ≡ length xs
length-raised_each [] ys = refl
length-raised_each (x ∷ xs) [] = refl
length-raised_each (x ∷ xs) (y ∷ ys) = ap suc (length-raised_each xs ys)

index-raised_each : (xs ys : List ℕ) (k : ℕ) → length ys ≡ length xs → k < length xs
    → get_or (raised_each xs ys) k 0 ≡ raised (get_or xs k 0) (get_or ys k 0)
index-raised_each [] ys k same low = absurd (omega arith)
index-raised_each (x ∷ xs) [] k same low = absurd (omega arith)
index-raised_each (x ∷ xs) (y ∷ ys) zero same low = refl
index-raised_each (x ∷ xs) (y ∷ ys) (suc k) same low = index-raised_each xs ys k (omega arith) (omega arith)

-- a list that has at each index the sum of the two
pub raised_each_is : (xs ys zs : List ℕ) → length ys ≡ length xs → length zs ≡ length xs
    → ((k : ℕ) → k < length xs → get_or zs k 0 ≡ raised (get_or xs k 0) (get_or ys k 0)) → zs ≡ raised_each xs ys
raised_each_is xs ys zs same long each =
    ext_get_or 0 zs (raised_each xs ys) (long ∙ sym (length-raised_each xs ys)) (λ k low.
    each k (omega arith) ∙ sym (index-raised_each xs ys k same (omega arith)))
