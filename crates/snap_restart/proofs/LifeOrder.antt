-- Of two beginnings of one history the shorter is a beginning of the longer.
use Rattle.std.proofs.Common.{◌≡◌, ℕ, zero, suc, ◌<◌, ◌≤◌, inl, inr, List, [], ◌∷◌, ◌++◌, length, drop, Some}
use Rattle.std.proofs.Common.{slice_get, refl, ap, sym, ◌∙◌, arith}
use Rattle.std.proofs.lemmas.{Bool.cases_lt, List.take-append-drop, Option.same_Some}
use Rattle.snap_history.specs.History.{Update, Start, IsBeginning, number_after}
use Rattle.snap_history.proofs.Beginnings.{beginning-self, beginning-trans, take-beginning, number-beginning}
use Rattle.snap_memory.proofs.{Collects.beginning-take, ScanAnswer.same_value}
use Rattle.snap_restart.specs.LifeCrash.{Has}

pub shorter : (a b h : List Update) → IsBeginning a h → IsBeginning b h → length a ≤ length b → IsBeginning a b
shorter a b h pa pb l = (
  drop (length a) b,
  sym (take-append-drop (length a) b) ∙ ap (λ (x : List Update). x ++ drop (length a) b)
      (sym (take-beginning b h (length a) pb l) ∙ beginning-take a h pa),
)

-- the longest of some beginnings of one history; the others are beginnings of it
pub record Longest (all : List (List Update)) : Type 0 where
  pub it : List Update
  pub place : ℕ
  pub there : slice_get all place ≡ Some it
  pub whole : (j : ℕ) (x : List Update) → slice_get all j ≡ Some x → IsBeginning x it

one_more_whole : (x : List Update) (xs : List (List Update)) (it : List Update) → IsBeginning x it
    → ((j : ℕ) (y : List Update) → slice_get xs j ≡ Some y → IsBeginning y it)
    → (j : ℕ) (y : List Update) → slice_get (x ∷ xs) j ≡ Some y → IsBeginning y it
one_more_whole x xs it first rest zero y e = rw (same_Some x y e) at first
one_more_whole x xs it first rest (suc j) y e = rest j y e

one_more : (x : List Update) (xs : List (List Update)) (h : List Update) → IsBeginning x h
    → (r : Longest xs) → IsBeginning r.it h → Longest (x ∷ xs)
one_more x xs h bx r br = elim (cases_lt (length r.it) (length x)) [
  | inl more ↦ record {
    it = x;
    place = 0;
    there = refl;
    whole = one_more_whole x xs x (beginning-self x)
        (λ j y e. beginning-trans y r.it x (r.whole j y e) (shorter r.it x h br bx (omega arith)));
  }
  | inr le ↦ record {
    it = r.it;
    place = suc r.place;
    there = r.there;
    whole = one_more_whole x xs r.it (shorter x r.it h bx br le) r.whole;
  }
]

pub longest : (all : List (List Update)) (h : List Update) → 0 < length all
    → ((j : ℕ) (x : List Update) → slice_get all j ≡ Some x → IsBeginning x h) → Longest all
longest [] h some each = absurd (omega arith)
longest (x ∷ []) h some each = record {
  it = x;
  place = 0;
  there = refl;
  whole = one_more_whole x [] x (beginning-self x) (λ j y e. absurd (cc e));
}
longest (x ∷ y ∷ all) h some each =
    let r = longest (y ∷ all) h (omega arith) (λ j z e. each (suc j) z e) in
    one_more x (y ∷ all) h (each 0 x refl) r (each (suc r.place) r.it r.there)

-- an update of the history is in each beginning whose number is high enough
pub has_early : (start : Start) (p h : List Update) (i k : ℕ) (v : List ℕ) → IsBeginning p h
    → Has start h i k v → k ≤ number_after start p i → Has start p i k v
has_early start p h i k v bp (q, bq, k_is, v_is) low = elim (cases_lt (length p) (length q)) [
  | inl lt ↦ (
      let under = number-beginning start p q i (shorter p q h bp bq (omega arith)) in
      let same : number_after start q i ≡ number_after start p i = omega arith in
      (p, beginning-self p, k_is ∙ same, v_is ∙ same_value start h q p i bq bp same))
  | inr ge ↦ (q, shorter q p h bq bp ge, k_is, v_is)
]
