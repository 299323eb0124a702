-- Two lines, one written after the other.
use Rattle.std.proofs.Common.{arith, ◌≡◌, ℕ, ◌+◌, List, ◌++◌, length, take, drop, sym, ◌∙◌, ap, subst, Option, true}
use Rattle.std.proofs.Common.{Result, Ok, Err, OnOk, OnErr, is_ok, take-append-drop}
use Rattle.std.proofs.Math.Seq.{take-length, take-append_seam, take-append-add}
use Rattle.std.proofs.{lemmas.List.append_assoc, lemmas.List.length-append, KnownBytes.Appends-trans}
use Rattle.std.specs.Io.KnownBytes.{Appends}
use Rattle.snap_order.specs.Streams.{AppendsBeginning, AppendsLess}
use lib.Seq.{take-append-le}

-- a beginning of the first list is one of both together
taken : (p : ℕ) (xs ys : List ℕ) → take (length (take p xs)) (xs ++ ys) ≡ take p xs
taken p xs ys =
    ap (λ l. take (length (take p xs)) (l ++ ys)) (sym (take-append-drop p xs)) ∙ ap (take (length (take p xs)))
    (append_assoc (take p xs) (drop p xs) ys) ∙ take-append_seam (take p xs) (drop p xs ++ ys)

pub beginning_more : (a b : Option (List ℕ)) (xs ys : List ℕ) → AppendsBeginning a b xs
    → AppendsBeginning a b (xs ++ ys)
beginning_more a b xs ys began =
    (length (take began.0 xs), subst (λ (l : List ℕ). Appends a b l) (sym (taken began.0 xs ys)) began.1)

pub whole_more : (a b : Option (List ℕ)) (xs ys : List ℕ) → Appends a b xs → AppendsBeginning a b (xs ++ ys)
whole_more a b xs ys came = (length xs, subst (λ (l : List ℕ). Appends a b l) (sym (take-append_seam xs ys)) came)

pub beginning_behind : (a b c : Option (List ℕ)) (xs ys : List ℕ) → Appends a b xs
    → AppendsBeginning b c ys → AppendsBeginning a c (xs ++ ys)
beginning_behind a b c xs ys came began = (
  length xs + began.0,
  subst (λ (l : List ℕ). Appends a c l) (sym (take-append-add xs ys began.0))
      (Appends-trans a b c xs (take began.0 ys) came began.1),
)

pub whole_is : (a b : Option (List ℕ)) (xs : List ℕ) → Appends a b xs → AppendsBeginning a b xs
whole_is a b xs came = (length xs, subst (λ (l : List ℕ). Appends a b l) (sym (take-length xs)) came)

pub less_more : (a b : Option (List ℕ)) (xs ys : List ℕ) → AppendsLess a b xs → AppendsLess a b (xs ++ ys)
less_more a b xs ys less = (
  less.0,
  omega (arith, length-append xs ys, less.1),
  subst (λ (l : List ℕ). Appends a b l) (sym (take-append-le less.0 xs ys (omega (arith, less.1)))) less.2,
)

pub less_behind : (a b c : Option (List ℕ)) (xs ys : List ℕ) → Appends a b xs
    → AppendsLess b c ys → AppendsLess a c (xs ++ ys)
less_behind a b c xs ys came less = (
  length xs + less.0,
  omega (arith, length-append xs ys, less.1),
  subst (λ (l : List ℕ). Appends a c l) (sym (take-append-add xs ys less.0))
      (Appends-trans a b c xs (take less.0 ys) came less.2),
)

-- what holds if a call succeeded, of one that did
pub on_ok : {T E : Type 0} (result : Result T E) (P : Type 0) → OnOk result P → is_ok result ≡ true → P
on_ok (Ok x) P holds told = holds
on_ok (Err e) P holds told = absurd (cc)

-- what always holds also holds if a call failed
pub on_failed : {T E : Type 0} (result : Result T E) (P : Type 0) → P → OnErr result P
on_failed (Ok x) P holds = tt
on_failed (Err e) P holds = holds
