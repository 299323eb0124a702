-- A list of which each element is changed, one after the other.
-- the first k elements have changed
use Rattle.std.proofs.Common.{rules, ◌≡◌, ℕ, ◌+◌, ◌<◌, ◌≤◌, List, length, get_or, Some, slice_get, slice_set, refl, sym}
use Rattle.std.proofs.Common.{◌∙◌, subst, arith}
use Rattle.std.proofs.lemmas.Option.{slice_get_read, slice_get_within, same_Some}
use Rattle.std.proofs.{lemmas.List.length-set}
use Rattle.snap_history.proofs.{Lists.get-set_other}
use Rattle.snap_history.specs.{Pairs.Pairs}
use Rattle.snap_world.proofs.{Elements.each-set}

pub record Swept {A : Type 0} (R : ℕ → A → A → Type 0) (k : ℕ) (old now : List A) : Type 0 where
  pub size : length now ≡ length old
  pub below : (i : ℕ) (a b : A) → i < k → slice_get old i ≡ Some a → slice_get now i ≡ Some b → R i a b
  pub above : (i : ℕ) → k ≤ i → slice_get now i ≡ slice_get old i

module _ {A : Type 0} {R : ℕ → A → A → Type 0} {k : ℕ} {old now : List A} (s : Swept R k old now) where
  -- the next element is unchanged
  pub swept-next : (a : A) → k < length now → a ≡ get_or now k a → slice_get old k ≡ Some a
  swept-next a l read = sym (s.above k (omega arith)) ∙ slice_get_read now (length now) k a refl l read

  pub swept-more : (a b : A) → k < length now → a ≡ get_or now k a → R k a b → Swept R (k + 1) old (slice_set now k b)
  swept-more a b l read here = record {
    size = length-set now k b ∙ s.size;
    below = λ i c d low ec ed. each-set (λ j z. j < k + 1 → (y : A) → slice_get old j ≡ Some y
        → R j y z) now k b (λ below y ey. subst (λ z. R k z b) (same_Some a y (sym (swept-next a l read) ∙ ey)) here)
        (λ j z ne ez below y ey. s.below j y z (omega arith) ey ez) i d ed low c ec;
    above = λ i low. get-set_other now k i b (λ e. omega arith) ∙ s.above i (omega arith);
  }

  pub swept-all : length now ≤ k → Pairs R old now
  swept-all l = search (rules, slice_get_within)
