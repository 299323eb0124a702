-- A list that a loop makes, item by item, from an iterator's items.
use Rattle.std.proofs.Common.{◌≡◌, ℕ, zero, suc, ◌+◌, List, [], ◌∷◌, ◌++◌, length, length-append, map, Bool, true, sym}
use Rattle.std.proofs.Common.{ap, ◌∙◌, append_assoc, append-nil, arith}
use Rattle.std.proofs.lemmas.List.{map_push, length-map}
use Rattle.std.specs.{List.range_with_len, Bool.if◌then◌else◌}

-- one more item is made
pub made_more : {X Y : Type 0} (f : X → Y) (made new : List X) (x : X) (left rest all : List Y)
    → map f made ++ left ≡ all → new ≡ made ++ x ∷ [] → left ≡ f x ∷ rest → map f new ++ rest ≡ all
made_more f made new x left rest all had is next =
    ap (λ l. map f l ++ rest) is ∙ ap (λ l. l ++ rest) (map_push f made x) ∙ append_assoc (map f made) (f x ∷ []) rest
    ∙ ap (λ l. map f made ++ l) (sym next) ∙ had

-- no item is left
pub made_all : {X Y : Type 0} (f : X → Y) (made : List X) (left all : List Y)
    → map f made ++ left ≡ all → length left ≡ 0 → map f made ≡ all
made_all f made [] all had none = sym (append-nil (map f made)) ∙ had
made_all f made (y ∷ ys) all had none = absurd (omega arith)

pub made_len : {X Y : Type 0} (f : X → Y) (made : List X) (all : List Y) → map f made ≡ all → length made ≡ length all
made_len f made all is = sym (length-map made f) ∙ ap length is

-- the list after a push that succeeded
pub pushed : {X : Type 0} (new made : List X) (x : X) (is_ok : Bool)
    → new ≡ (if is_ok then made ++ x ∷ [] else made) → is_ok ≡ true → new ≡ made ++ x ∷ []
pushed new made x is_ok by ok = rw ok at by

counted_more : (a n j : ℕ) → a + n ≡ j → range_with_len a (suc n) ≡ range_with_len a n ++ j ∷ []
counted_more a zero j is = let same : a ≡ j = omega (arith, is) in ap (λ k. k ∷ []) same
counted_more a (suc n) j is = ap (λ ks. a ∷ ks) (counted_more (a + 1) n j (omega (arith, is)))

-- each item's number is its index, and one more item is made
pub numbered_more : {X : Type 0} (f : X → ℕ) (made new : List X) (x : X) → map f made ≡ range_with_len 0 (length made)
    → new ≡ made ++ x ∷ [] → f x ≡ length made → map f new ≡ range_with_len 0 (length new)
numbered_more f made new x had is number =
    let long : length new ≡ suc (length made) = omega (arith, ap length is, length-append made (x ∷ [])) in
    ap (map f) is ∙ map_push f made x ∙ ap (λ ks. ks ++ f x ∷ []) had
    ∙ sym (ap (range_with_len 0) long
    ∙ counted_more 0 (length made) (f x) (omega (arith, number)))

-- two lists of equal length are pushed to
pub pushed_len : {X Y : Type 0} (xs xs' : List X) (ys ys' : List Y) (x : X) (y : Y)
    → length xs ≡ length ys → xs' ≡ xs ++ x ∷ [] → ys' ≡ ys ++ y ∷ [] → length xs' ≡ length ys'
pushed_len xs xs' ys ys' x y same one two = omega (
  arith,
  ap length one,
  ap length two,
  length-append xs (x ∷ []),
  length-append ys (y ∷ []),
)
