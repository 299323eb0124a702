-- New registers, after all writers' seats are split off, keep their rule.
use Rattle.std.proofs.Common.{◌≡◌, ℕ, zero, suc, ◌+◌, ◌-◌, ◌<◌, ◌≤◌, List, [], ◌∷◌, ◌++◌, length, Some, slice_get, refl}
use Rattle.std.proofs.Common.{sym, subst, ◌∙◌, arith, length-append}
use Rattle.std.proofs.lemmas.Option.{slice_get_within}
use Rattle.snap_register.specs.Rule.{segments, seats, size, IsWriter, Kept, first_role, without_first_role}
use Rattle.snap_register.specs.{Setup.first_view, Setup.opening_words, Setup.IsReady, Setup.IsFirst, Registers.Moment}
use Rattle.snap_register.proofs.{Opens.opens, Opens.first_is, Opens.enough, Opens.bare, Opens.first_after, Joins.gives}
use Rattle.snap_register.specs.{declared.plan.Plan.Plan, declared.plan.SeatView.SeatView, History.updates, History.only}
use Rattle.snap_register.proofs.Updates.{updates_count}
use Rattle.snap_writer.specs.{Writer.WriterState, Life.Place, Life.seen_at}
use Rattle.snap_restart.specs.{LifeLaws.IsSeatOf, Crash.IsLifeFrom, Restarts.Crashed}
use Rattle.snap_laws.specs.Moment.{ShowNothing, HasNone, AtOnceLaw, OverLaw}
use mathlib.Core.{Logic.dite, Option.some}
use native.Mathlib.Decide.{ℕ_discrete}
use lib.ListN.{get_elem?}
use Rattle.snap_disk.specs.declared.disk.Disk as Disk

-- ---- the end of a list of views

inside_still : {A : Type 0} (xs ys : List A) (i : ℕ) (x : A) → get_elem? xs i ≡ some x → get_elem? (xs ++ ys) i ≡ some x
inside_still [] ys i x e = absurd (cc e)
inside_still (z ∷ xs) ys zero x e = e
inside_still (z ∷ xs) ys (suc i) x e = inside_still xs ys i x e

at_its_end : {A : Type 0} (xs : List A) (y : A) → get_elem? (xs ++ y ∷ []) (length xs) ≡ some y
at_its_end [] y = refl
at_its_end (z ∷ xs) y = at_its_end xs y

module _ (p : Plan) (ready : IsReady p) where
  -- the table as it was made, with these seats
  abbrev table : List SeatView → Moment
  table views = record { words = opening_words p; homes = []; views = views }

  -- the first seat has split off the seats of the first k writers, and can split off more
  record Handed (k : ℕ) : Type 0 where
    pub first : SeatView
    pub others : List SeatView
    pub kept : Kept p (table (first ∷ others))
    pub plan_is : first.plan ≡ p
    pub low_is : first.low ≡ k
    pub high_is : first.high ≡ segments p
    pub left : ℕ
    pub left_is : left + k ≡ seats p
    pub is_first : IsFirst {S = Unit {0}} (size p) left (first, [])
    pub many : length others ≡ k
    pub writers : (i : ℕ) → i < k → (v : SeatView) × (get_elem? others i ≡ some v) × IsWriter v i × (v.seen ≡ [])

  one_more : (k : ℕ) → k < segments p → Handed k → Handed (suc k)
  one_more k low h =
      let v = h.first in
      let f = h.is_first in
      let some_left : 0 < h.left = omega arith in
      let any = enough (Unit {0}) (size p) h.left (v, []) f some_left in
      let role : v.low < v.high = omega arith in
      record {
        first = without_first_role v;
        others = h.others ++ first_role v ∷ [];
        kept = gives (Unit {0}) p 0 v f.seen_end_is f.pool_end_is role (bare (Unit {0}) (size p) h.left (v, []) f) any.0
            any.1 (table (v ∷ h.others)) h.kept refl;
        plan_is = h.plan_is;
        low_is = omega arith;
        high_is = h.high_is;
        left = h.left - 1;
        left_is = omega arith;
        is_first = first_after (Unit {0}) (size p) (size p) h.left (h.left - 1) (v.low + 1) (v, [])
            (without_first_role v, []) f (omega arith) refl refl;
        many = omega (arith, h.many, length-append h.others (first_role v ∷ []));
        writers = λ i inside. dite (ℕ_discrete i k)
            (λ same. (
              first_role v,
              subst (λ (j : ℕ). get_elem? (h.others ++ first_role v ∷ []) j ≡ some (first_role v))
                  (h.many ∙ sym same) (at_its_end h.others (first_role v)),
              (omega arith, omega arith, omega arith, omega arith),
              f.seen_is,
            ))
            (λ other. (
            let w = h.writers i (omega arith) in
            (w.0, inside_still h.others (first_role v ∷ []) i w.0 w.1, w.2, w.3)));
      }

  start : Handed 0
  start = record {
    first = first_view p;
    others = [];
    kept = opens p ready (Unit {0});
    plan_is = refl;
    low_is = refl;
    high_is = refl;
    left = seats p;
    left_is = omega arith;
    is_first = first_is (Unit {0}) p (size p) (first_view p, []) ready refl refl;
    many = refl;
    writers = λ i low. absurd (omega arith);
  }

  handed : (k : ℕ) → k ≤ segments p → Handed k
  handed zero low = start
  handed (suc k) low = one_more k (omega arith) (handed k (omega arith))

  -- a moment of these registers at which each writer has its seat, and nothing was shown
  pub record AtOnce : Type 0 where
    pub state : Moment
    pub kept : Kept p state
    pub seat : (i : ℕ) → i < segments p → (j : ℕ) × (v : SeatView)
        × (get_elem? state.views j ≡ some v) × IsWriter v i × (v.seen ≡ [])

  pub at_once : AtOnce
  at_once =
      let all = handed (segments p) (omega arith) in
      record {
        state = table (all.first ∷ all.others);
        kept = all.kept;
        seat = λ i low. let w = all.writers i low in (suc i, w.0, w.1, w.2, w.3);
      }

  -- its history has no update of the n files
  pub none_stands : (m : AtOnce) → HasNone (segments p) (updates m.kept.history)
  none_stands m i low =
      let seat = m.seat i low in
      let is = seat.3 in
      let own = (m.kept.each_seat seat.0 seat.1 seat.2).role i (omega arith, omega arith) in
      let same : only i seat.1.seen ≡ only i m.kept.history = own.all (omega arith) in
      rw (updates_count, ← same, seat.4)

  pub seat_there : {D : Type 0} (m : AtOnce) (i : ℕ) (place : Place D) → i < segments p
      → seen_at place ≡ [] → IsSeatOf m.state.views i place
  seat_there m i place low none = let seat = m.seat i low in (seat.0, seat.1, seat.2, seat.3, rw (none, seat.4))

module _ {D : Type 0} (disk : Disk.Ghosts D) where
  seats_there : (plan : Plan) (ready : IsReady plan) (m : AtOnce plan ready) (writers : List (WriterState D))
      (places : List (Place D)) → length writers ≡ segments plan → length places ≡ length writers
      → ShowNothing disk writers places → (i : ℕ) (q : Place D) → slice_get places i ≡ Some q
      → IsLifeFrom disk writers i q × IsSeatOf m.state.views i q
  seats_there plan ready m writers places all size nothing i q at = grind (arith, seat_there, slice_get_within)

  pub crash_at_once : AtOnceLaw disk
  crash_at_once devices writers opened ready places files size nothing left =
      let m = at_once opened.plan ready in
      let all = opened.all in (
        updates m.kept.history,
        λ i low. none_stands opened.plan ready m i (omega (arith, low, all)),
        (opened.any_moment m.state m.kept places files size
            (seats_there opened.plan ready m writers places opened.all size nothing) left).1,
      )

  pub come_over : OverLaw disk
  come_over n start moments devices writers places nexts past opened hon ready size nothing follow =
      let m = at_once opened.plan ready in
      let all = opened.all in (
        updates m.kept.history,
        λ i low. none_stands opened.plan ready m i (omega (arith, low, all)),
        Crashed start moments devices nexts writers places m.state past opened hon m.kept size
            (seats_there opened.plan ready m writers places opened.all size nothing) follow,
      )
