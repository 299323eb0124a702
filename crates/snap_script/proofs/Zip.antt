-- Two lists, index by index.
use Rattle.std.{proofs.Common.List, proofs.Common.[], proofs.Common.◌∷◌, proofs.Common.◌++◌, specs.List.AllZip}

-- one more of each
pub AllZip-push : {A B : Type 0} (R : A → B → Type 0) (xs : List A) (ys : List B) (x : A) (y : B)
    → AllZip R xs ys → R x y → AllZip R (xs ++ x ∷ []) (ys ++ y ∷ [])
AllZip-push R [] [] x y all here = (here, tt)
AllZip-push R (a ∷ xs) (b ∷ ys) x y all here = (all.0, AllZip-push R xs ys x y all.1 here)
AllZip-push R xs ys x y all here = absurd all
