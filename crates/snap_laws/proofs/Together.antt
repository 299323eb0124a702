-- The premises of the law of a cut if two writers are at work.
use Rattle.std.proofs.Common.{◌≡◌, ⊎_elim, ℕ, zero, suc, ◌+◌, inl, inr, List, [], ◌∷◌, length, Some}
use Rattle.std.proofs.{Common.slice_get, Common.get_or, Common.refl, Common.ap, Common.sym, Common.subst, Common.◌∙◌}
use Rattle.std.proofs.{Common.arith, lemmas.Option.same_Some}
use Rattle.snap_history.specs.{History.Update, History.IsBeginning, Limits.IsNumber, Limits.IsShort}
use Rattle.snap_history.{specs.declared.limits.TheConstants.LAST_NUMBER, proofs.Beginnings.beginning-self}
use Rattle.snap_register.specs.{declared.plan.Plan.Plan, Rule.segments}
use Rattle.snap_writer.specs.Writer.{WriterState, number_of}
use Rattle.snap_writer.specs.Life.{Place, in_store, resting, seen_at, StoresFirst, IsIn, IsWriterOf}
use Rattle.snap_writer.specs.{Judge.IsJudged, declared.judgement.Judgement.TheVariants.Go}
use Rattle.snap_restart.specs.LifeLaws.{IsLivedIn}
use Rattle.snap_restart.proofs.{LifeCrash.each_seen, LifeCrash.cut_recovers, Crash.opened_on}
use Rattle.snap_laws.specs.Together.{in_its_store, stored_unshown, AreTwo, IsRecoveredAt}
use Rattle.snap_laws.{specs.Opened.AreNew, proofs.Openings.sees_itself}
use Rattle.snap_disk.specs.declared.disk.Disk as Disk

module _ {D : Type 0} (disk : Disk.Ghosts D) where
  module _ (plan : Plan) (i : ℕ) (v : List ℕ) (a z : WriterState D) (is : IsWriterOf disk plan 2 i a)
      (fresh : a.seat.seen ≡ []) (first : StoresFirst disk v a z) where
    -- what it did after its store leaves the segment unchanged
    same_segment : z.segment ≡ first.stored.segment
    same_segment = ⊎_elim (λ shown. shown.2.segment_is ∙ shown.1.segment_is) (λ sees. sees.segment_is) first.after

    none_seen : IsBeginning first.stored.seat.seen []
    none_seen = rw (first.stores.seat_is, first.begins.seat_is, fresh) (beginning-self [])

    lived_at : (p : Place D) → IsIn disk first.stored a (first.began ∷ first.stored ∷ []) p
        → IsLivedIn disk plan 2 [] i p
    lived_at p there = (
      a,
      first.stored,
      first.began ∷ first.stored ∷ [],
      is,
      (inl (inr (inl first.begins)), (inr (v, first.stores), refl)),
      there,
      none_seen,
    )

    -- inside its store
    lived_inside : IsLivedIn disk plan 2 [] i (in_its_store a v z.segment.device)
    lived_inside = lived_at _ (inr (inl (inr (
      first.began,
      v,
      first.stored.segment.device,
      sees_itself disk first.began,
      rw first.stores.seat_is (beginning-self first.began.seat.seen),
      first.stores.went,
      λ t. in_store (record { segment = sym first.begins.segment_is t; seat = sym first.begins.seat_is t }) v
          ((same_segment t).device),
    ))))

    -- between its store and its show
    lived_between : IsLivedIn disk plan 2 [] i (stored_unshown a z)
    lived_between = lived_at _ (inr (inr (inl (
      first.stored,
      sees_itself disk first.stored,
      beginning-self first.stored.seat.seen,
      λ t. resting (record { segment = same_segment t; seat = sym (first.stores.seat_is ∙ first.begins.seat_is) t }),
    ))))

  module _ (plan : Plan) (p q : Place D) (first : IsLivedIn disk plan 2 [] 0 p) (second : IsLivedIn disk plan 2 [] 1 q)
      (p_fresh : seen_at p ≡ []) (q_fresh : seen_at q ≡ []) where
    of_both : (P : ℕ → Place D → Type 0) → P 0 p → P 1 q → (i : ℕ) (r : Place D)
        → slice_get (p ∷ q ∷ []) i ≡ Some r → P i r
    of_both P one other zero r e = subst (P 0) (same_Some p r e) one
    of_both P one other (suc zero) r e = subst (P 1) (same_Some q r e) other
    of_both P one other (suc (suc i)) r e = absurd (cc e)

    fresh_at : (i : ℕ) (r : Place D) → slice_get (p ∷ q ∷ []) i ≡ Some r → seen_at r ≡ []
    fresh_at = of_both (λ _ r. seen_at r ≡ []) p_fresh q_fresh

    recovered_at : IsRecoveredAt disk plan (p ∷ q ∷ [])
    recovered_at files left =
        cut_recovers disk plan [] (p ∷ q ∷ []) [] files (omega arith)
        (of_both (λ i r. IsLivedIn disk plan 2 [] i r) first second) (λ k seen e. absurd (cc e))
        (λ j seen e i r at. (
        let fresh = each_seen (λ (h : List Update). h ≡ []) (p ∷ q ∷ []) [] fresh_at
        (λ k x there. absurd (cc there)) j seen e in rw (fresh, fresh_at i r at) (omega arith))) left

  -- both made an update, stored first and then shown
  module _ (first second first_new second_new : WriterState D) (v w : List ℕ) (two : AreTwo disk first second)
      (one : StoresFirst disk v first first_new) (other : StoresFirst disk w second second_new) where
    abbrev plan : Plan
    plan = first.seat.plan

    first_inside : IsLivedIn disk plan 2 [] 0 (in_its_store first v first_new.segment.device)
    first_inside = lived_inside plan 0 v first first_new two.first_is two.first_fresh one

    second_between : IsLivedIn disk plan 2 [] 1 (stored_unshown second second_new)
    second_between = lived_between plan 1 w second second_new two.second_is two.second_fresh other

    -- both inside their stores; one inside its store and the other stored; both stored and not yet shown
    pub at_work : IsRecoveredAt disk plan (in_its_store first v first_new.segment.device
        ∷ in_its_store second w second_new.segment.device ∷ [])
        × IsRecoveredAt disk plan (in_its_store first v first_new.segment.device
        ∷ stored_unshown second second_new ∷ [])
        × IsRecoveredAt disk plan (stored_unshown first first_new ∷ stored_unshown second second_new ∷ [])
    at_work = (
      recovered_at plan _ _ first_inside (lived_inside plan 1 w second second_new two.second_is two.second_fresh other)
          two.first_fresh two.second_fresh,
      recovered_at plan _ _ first_inside second_between two.first_fresh two.second_fresh,
      recovered_at plan _ _ (lived_between plan 0 v first first_new two.first_is two.first_fresh one) second_between
          two.first_fresh two.second_fresh,
    )

-- ---- an opening meets these premises

pub two_seen : {A : Type 0} (items seen : List A) (x y : A) → seen ≡ items → length items ≡ 2
    → x ≡ get_or seen 0 x → y ≡ get_or seen 1 y → items ≡ x ∷ y ∷ []
two_seen (a ∷ b ∷ []) seen x y same size one two = rw (rw same at one, rw same at two) refl
two_seen [] seen x y same size one two = grind arith
two_seen (a ∷ []) seen x y same size one two = grind arith
two_seen (a ∷ b ∷ z ∷ zs) seen x y same size one two = grind arith

pub below_last : (k : ℕ) → IsNumber k → (k ≡ LAST_NUMBER → ⊥) → IsNumber (k + 1)
below_last k low other = omega arith

module _ {D : Type 0} (disk : Disk.Ghosts D) (devices : List D) (writers : List (WriterState D)) (x y : WriterState D)
    (are : writers ≡ x ∷ y ∷ []) (new : AreNew disk devices writers) where
  at_0 : slice_get writers 0 ≡ Some x
  at_0 = ap (λ (l : List (WriterState D)). slice_get l 0) are

  at_1 : slice_get writers 1 ≡ Some y
  at_1 = ap (λ (l : List (WriterState D)). slice_get l 1) are

  two : length writers ≡ 2
  two = ap (λ (l : List (WriterState D)). length l) are

  same_plan : x.seat.plan ≡ new.opened.plan
  same_plan = (new.opened.writers_are 0 x at_0).plan_is

  of_two : (i : ℕ) (w : WriterState D) → slice_get writers i ≡ Some w → IsWriterOf disk x.seat.plan 2 i w
  of_two i w at = rw (← same_plan, two) at (new.opened.writers_are i w at)

  pub are_two : AreTwo disk x y
  are_two = record {
    first_is = of_two 0 x at_0;
    second_is = of_two 1 y at_1;
    first_fresh = (new.fresh 0 x at_0).0;
    second_fresh = (new.fresh 1 y at_1).0;
  }

  goes_at : (i : ℕ) (w : WriterState D) (k : ℕ) (v : List ℕ) → slice_get writers i ≡ Some w
      → IsShort v → k ≡ number_of w + 1 → IsNumber k → IsJudged w k v Go
  goes_at i w k v at short next number =
      let is = (opened_on disk devices writers new.were i w at).2 in
      let left = (new.fresh i w at).1 in
      let count : segments w.seat.plan ≡ 2 = rw (new.opened.writers_are i w at).plan_is (sym new.opened.all ∙ two) in
      ((short, next), number, is.unfenced, rw count (omega (arith, left)))

  pub first_goes : (k : ℕ) (v : List ℕ) → IsShort v → k ≡ number_of x + 1 → IsNumber k → IsJudged x k v Go
  first_goes k v = goes_at 0 x k v at_0

  pub second_goes : (k : ℕ) (v : List ℕ) → IsShort v → k ≡ number_of y + 1 → IsNumber k → IsJudged y k v Go
  second_goes k v = goes_at 1 y k v at_1
