-- Documents that grow by some tokens at a time.
use Rattle.std.proofs.Common.{◌≡◌, ℕ, zero, suc, refl, ◌+◌, ◌<◌, List, [], ◌∷◌, ◌++◌, length, take}
use Rattle.std.proofs.Common.{Result, Ok, Err, OnOk, get_or, ap, sym, ◌∙◌, arith, append-nil, append_assoc}
use Rattle.std.proofs.lemmas.List.{length-take-le, take_more}
use Rattle.snap_order.specs.Each.{each_from}

-- more tokens after those that were written
pub wrote : {A : Type 0} (old xs ys before after : List A) → before ≡ old ++ xs → after ≡ before ++ ys
    → after ≡ old ++ (xs ++ ys)
wrote old xs ys before after e f = f ∙ ap (λ l. l ++ ys) e ∙ append_assoc old xs ys

-- more tokens by the last call, if it succeeded
pub wrote_last : {A T E : Type 0} (r : Result T E) (old xs ys before after : List A) → before ≡ old ++ xs
    → OnOk r (after ≡ before ++ ys) → OnOk r (after ≡ old ++ (xs ++ ys))
wrote_last (Ok x) old xs ys before after e f = wrote old xs ys before after e f
wrote_last (Err x) old xs ys before after e f = f

each_push : {X Y : Type 0} (f : ℕ → X → List Y) (i j : ℕ) (xs : List X) (x : X) → j ≡ i + length xs
    → each_from f i (xs ++ x ∷ []) ≡ each_from f i xs ++ f j x
each_push f i j [] x e = let at : i ≡ j = omega arith in rw (append-nil, at)
each_push f i j (y ∷ xs) x e =
    let at : j ≡ i + 1 + length xs = omega arith in
    rw (each_push f (i + 1) j xs x at, append_assoc (f i y) (each_from f (i + 1) xs))

-- the elements' tokens up to and with the next one, after `old`
pub each_next : {X Y : Type 0} (f : ℕ → X → List Y) (xs : List X) (k : ℕ) (x : X)
    (old before after : List Y) → after ≡ before ++ f k x → k < length xs → x ≡ get_or xs k x
    → before ≡ old ++ each_from f 0 (take k xs) → after ≡ old ++ each_from f 0 (take (k + 1) xs)
each_next f xs k x old before after now low is e =
    let long : length (take k xs) ≡ k = length-take-le k xs (omega arith) in
    let first = take_more xs k x low ∙ ap (λ y. take k xs ++ y ∷ []) (sym is) in
    let more = ap (each_from f 0) first ∙ each_push f 0 k (take k xs) x (omega arith) in
    wrote old (each_from f 0 (take k xs)) (f k x) before after e now ∙ ap (λ l. old ++ l) (sym more)

-- the element at a place inside the list doesn't depend on the default
pub same_place : {X : Type 0} (xs : List X) (k : ℕ) (d e : X) → k < length xs → get_or xs k d ≡ get_or xs k e
same_place [] k d e low = absurd (omega arith)
same_place (x ∷ xs) zero d e low = refl
same_place (x ∷ xs) (suc k) d e low = same_place xs k d e (omega arith)
