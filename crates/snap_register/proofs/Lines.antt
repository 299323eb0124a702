-- How a beginning of a history, and one more update, change a segment's line.
use Rattle.std.proofs.Common.{◌≡◌, ◌≢◌, ℕ, zero, suc, ◌+◌, ◌<◌, ◌≤◌, ◌⊎◌, inl, inr, ⊎_elim}
use Rattle.std.proofs.Common.{List, [], ◌∷◌, ◌++◌, length, get_or, refl, ap, sym, ◌∙◌, arith, append_assoc}
use Rattle.std.proofs.Common.{length-append}
use Rattle.std.proofs.lemmas.List.{same_from_push, get_or_append_left, get_or_push, nil_from_length, append-nil}
use Rattle.std.proofs.lemmas.Bool.Decides.{nat_tests}
use Rattle.snap_register.specs.History.{entry, only, count, record_words}
use Rattle.snap_register.specs.{declared.plan.Entry.Entry, declared.plan.Plan.Plan, Rule.Follows, Rule.IsLegal}
use mathlib.Core.List.{IsPrefix}
use mathlib.Core.Logic.{dite}
use native.Mathlib.Decide.{ℕ_discrete}

pub prefix_self : {A : Type 0} (xs : List A) → IsPrefix xs xs
prefix_self xs = ([], append-nil xs)

pub prefix_trans : {A : Type 0} (xs ys zs : List A) → IsPrefix xs ys → IsPrefix ys zs → IsPrefix xs zs
prefix_trans xs ys zs p q = (p.0 ++ q.0, sym (append_assoc xs p.0 q.0) ∙ (ap (λ w. w ++ q.0) p.1 ∙ q.1))

pub only-append : (i : ℕ) (a b : List Entry) → only i (a ++ b) ≡ only i a ++ only i b
only-append i [] b = refl
only-append i (x ∷ xs) b = grind (arith, nat_tests, only-append i xs b)

-- one entry in front, of this segment or of another
only_first : (i : ℕ) (x : Entry) (h : List Entry) → x.segment ≡ i → only i (x ∷ h) ≡ x ∷ only i h
only_first i x h same = grind (arith, nat_tests)

only_behind : (i : ℕ) (x : Entry) (h : List Entry) → x.segment ≢ i → only i (x ∷ h) ≡ only i h
only_behind i x h other = grind (arith, nat_tests)

pub only_push_same : (i : ℕ) (h : List Entry) (e : Entry) → e.segment ≡ i → only i (h ++ e ∷ []) ≡ only i h ++ e ∷ []
only_push_same i h e is = grind (arith, nat_tests, only-append i h (e ∷ []))

pub only_push_other : (i : ℕ) (h : List Entry) (e : Entry) → e.segment ≢ i → only i (h ++ e ∷ []) ≡ only i h
only_push_other i h e is = grind (arith, nat_tests, only-append i h (e ∷ []), append-nil)

pub count_push_same : (i : ℕ) (h : List Entry) (e : Entry) → e.segment ≡ i → count i (h ++ e ∷ []) ≡ count i h + 1
count_push_same i h e is = ap length (only_push_same i h e is) ∙ length-append (only i h) (e ∷ [])

pub count_push_other : (i : ℕ) (h : List Entry) (e : Entry) → e.segment ≢ i → count i (h ++ e ∷ []) ≡ count i h
count_push_other i h e is = ap length (only_push_other i h e is)

pub count-append : (i : ℕ) (a b : List Entry) → count i (a ++ b) ≡ count i a + count i b
count-append i a b = ap length (only-append i a b) ∙ length-append (only i a) (only i b)

count_rest : (i : ℕ) (a h : List Entry) (p : IsPrefix a h) → count i h ≡ count i a + count i p.0
count_rest i a h p = ap (count i) (sym p.1) ∙ count-append i a p.0

pub count_prefix : (i : ℕ) (a h : List Entry) → IsPrefix a h → count i a ≤ count i h
count_prefix i a h p = omega (arith, count_rest i a h p)

-- a record of a beginning's line is a record of the whole history's line
pub record_prefix : (p : Plan) (a h : List Entry) (i r : ℕ) → IsPrefix a h → r ≤ count i a
    → record_words p h i r ≡ record_words p a i r
record_prefix p a h i r pre le = grind (arith, only-append i a pre.0, pre.1, get_or_append_left)

-- the record of the last update
pub record_last : (p : Plan) (h : List Entry) (i : ℕ) (ws : List ℕ)
    → record_words p (h ++ entry i ws ∷ []) i (count i h + 1) ≡ ws
record_last p h i ws = grind (arith, only_push_same i h (entry i ws) refl, get_or_push)

pub none_between : (i : ℕ) (a h : List Entry) (p : IsPrefix a h) → count i a ≡ count i h → only i p.0 ≡ []
none_between i a h p same = nil_from_length (only i p.0) (omega (arith, count_rest i a h p))

-- a list is empty or has a last element
last_view : {A : Type 0} (b : List A) → (b ≡ []) ⊎ ((c : List A) × (y : A) × (b ≡ c ++ y ∷ []))
last_view [] = inl refl
last_view (x ∷ xs) = ⊎_elim (λ e. inr ([], x, ap (λ w. x ∷ w) e)) (λ t.
    inr (x ∷ t.0, t.1, ap (λ w. x ∷ w) t.2)) (last_view xs)

pub legal_push : (p : Plan) (h : List Entry) (x : Entry) → IsLegal p h → Follows p h x → IsLegal p (h ++ x ∷ [])
legal_push p h x legal follows a b e is = ⊎_elim
    (λ none. let s = same_from_push a h e x (ap (λ w. a ++ e ∷ w) (sym none) ∙ is) in
    rw (s.1, s.0) follows) (λ t. let s = same_from_push (a ++ e ∷ t.0) h t.1 x (append_assoc a (e ∷ t.0) (t.1 ∷ [])
    ∙ (ap (λ w. a ++ e ∷ w) (sym t.2) ∙ is)) in legal a t.0 e s.0) (last_view b)

pub legal_prefix : (p : Plan) (a h : List Entry) → IsPrefix a h → IsLegal p h → IsLegal p a
legal_prefix p a h pre legal l r e is =
    legal l (r ++ pre.0) e (sym (append_assoc l (e ∷ r) pre.0) ∙ (ap (λ w. w ++ pre.0) is ∙ pre.1))

-- an update that may follow a beginning may follow the whole history, if its segment has no further update there
pub follows_later : (p : Plan) (a h : List Entry) (x : Entry) → IsPrefix a h
    → count x.segment a ≡ count x.segment h → Follows p a x → Follows p h x
follows_later p a h x pre same f = (f.0, prefix_trans f.0 a h f.1 pre, f.2 ∙ same, f.3)

-- update r of a segment's line, with what precedes and what follows it
pub record Found (i r : ℕ) (h : List Entry) : Type 0 where
  pub before : List Entry
  pub after : List Entry
  pub is : before ++ get_or (only i h) r (entry i []) ∷ after ≡ h
  pub place : count i before ≡ r
  pub its : (get_or (only i h) r (entry i [])).segment ≡ i

found_more : (i r : ℕ) (x : Entry) (h : List Entry) → x.segment ≢ i → Found i r h → Found i r (x ∷ h)
found_more i r x h other f =
    let e = only_behind i x h other in
    record {
      before = x ∷ f.before;
      after = f.after;
      is = rw e (ap (λ w. x ∷ w) f.is);
      place = ap length (only_behind i x f.before other) ∙ f.place;
      its = rw e f.its;
    }

found_first : (i : ℕ) (x : Entry) (h : List Entry) → x.segment ≡ i → Found i zero (x ∷ h)
found_first i x h same =
    let e = only_first i x h same in
    record {
      before = [];
      after = h;
      is = ap (λ l. get_or l zero (entry i []) ∷ h) e;
      place = refl;
      its = ap (λ l. (get_or l zero (entry i [])).segment) e ∙ same;
    }

found_next : (i r : ℕ) (x : Entry) (h : List Entry) → x.segment ≡ i → Found i r h → Found i (suc r) (x ∷ h)
found_next i r x h same f =
    let e = only_first i x h same in
    record {
      before = x ∷ f.before;
      after = f.after;
      is = rw e (ap (λ w. x ∷ w) f.is);
      place = ap length (only_first i x f.before same) ∙ ap suc f.place;
      its = rw e f.its;
    }

pub find : (i r : ℕ) (h : List Entry) → r < count i h → Found i r h
find i r [] lt = absurd (omega arith)
find i zero (x ∷ h) lt = dite (ℕ_discrete x.segment i) (λ same. found_first i x h same)
    (λ other. found_more i zero x h other (find i zero h (omega (arith, ap length (only_behind i x h other)))))
find i (suc r) (x ∷ h) lt = dite (ℕ_discrete x.segment i) (λ same. found_next i r x h same
    (find i r h (omega (arith, ap length (only_first i x h same))))) (λ other. found_more i (suc r) x h other
    (find i (suc r) h (omega (arith, ap length (only_behind i x h other)))))
