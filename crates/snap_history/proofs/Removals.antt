-- Lists whose items are removed from the front, one after the other.
use Rattle.std.proofs.Common.{◌≡◌, ℕ, zero, suc, ◌+◌, ◌<◌, ◌≤◌, List, [], ◌∷◌, ◌++◌, length, take, drop, slice_get}
use Rattle.std.proofs.Common.{Some, ap, sym, ◌∙◌, arith}
use Rattle.std.proofs.lemmas.Option.{slice_get_within}
use Rattle.std.proofs.lemmas.List.{drop-drop, take-append-drop, take-take, drop-take, length-drop, take_all}

get_dropped : {A : Type 0} (k : ℕ) (xs : List A) (x : A) (rest : List A) → drop k xs ≡ x ∷ rest
    → slice_get xs k ≡ Some x
get_dropped zero [] x rest e = absurd cc
get_dropped zero (y ∷ xs) x rest e = cc
get_dropped (suc k) [] x rest e = absurd cc
get_dropped (suc k) (y ∷ xs) x rest e = get_dropped k xs x rest e

-- the first k items of the list were removed, and x is being removed now
pub record Taken {A : Type 0} (k : ℕ) (xs : List A) (x : A) (rest : List A) : Type 0 where
  pub head : drop k xs ≡ x ∷ rest
  pub at : slice_get xs k ≡ Some x
  pub inside : k < length xs
  -- what remains once n items are removed
  pub left : (n : ℕ) → n ≡ k + 1 → rest ≡ drop n xs
  pub front : (n : ℕ) → n ≡ k + 1 → take n xs ≡ take k xs ++ x ∷ []

pub taken : {A : Type 0} (k : ℕ) (xs : List A) (x : A) (left rest : List A) → left ≡ drop k xs
    → left ≡ x ∷ rest → Taken k xs x rest
taken k xs x left rest is next =
    let head : drop k xs ≡ x ∷ rest = sym is ∙ next in
    let at = get_dropped k xs x rest head in
    record {
      head = head;
      at = at;
      inside = slice_get_within xs k x at;
      left = λ n on. ap (drop 1) (sym head) ∙ drop-drop 1 k xs ∙ ap (λ m. drop m xs) (sym on);
      front = λ n on. ap (λ m. take m xs) on ∙ sym (take-append-drop k (take (k + 1) xs))
          ∙ ((λ i. take-take k (k + 1) xs (omega arith) i ++ drop-take k 1 xs i)
          ∙ ap (λ l. take k xs ++ take 1 l) head);
    }

-- if nothing remains, all items were removed
pub none_after : {A : Type 0} (k : ℕ) (xs rest : List A) → rest ≡ drop k xs → length rest ≡ 0 → length xs ≤ k
none_after k xs rest is none = let e = ap length is ∙ length-drop k xs in omega arith

pub all_taken : {A : Type 0} (k : ℕ) (xs rest : List A) → rest ≡ drop k xs → length rest ≡ 0 → take k xs ≡ xs
all_taken k xs rest is none = take_all k xs (none_after k xs rest is none)
