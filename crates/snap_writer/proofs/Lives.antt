-- Updates and meetings as parts of a writer's life.
use Rattle.std.proofs.Common.{◌≡◌, ◌⊎◌, ⊎_elim, ℕ, ◌+◌, inl, inr, List, [], ◌∷◌, Some, None, true, Result, Ok, Err}
use Rattle.std.proofs.Common.{refl, ap, sym, subst}
use Rattle.std.specs.Prelude.{OnOk, OnErr}
use Rattle.snap_disk.specs.{Device.MayLeave, Device.IsSettled, Time.LeavesOnly, declared.refusal.Refusal.Refusal}
use Rattle.snap_slot.specs.{Layout.IsFileOf, States.IsEither}
use Rattle.snap_segment.specs.Segment.{SegmentState}
use Rattle.snap_register.specs.Seat.{Meets}
use Rattle.snap_writer.specs.Writer.{WriterState, number_of, value_of}
use Rattle.snap_writer.specs.Update.{IsSameSeat, EndsWith, Advances, Fails}
use Rattle.snap_register.specs.declared.plan.UpdatePhase.{UpdatePhase}
use Rattle.snap_register.specs.declared.plan.UpdatePhase.TheVariants.{Shown, Storing, Stored}
use Rattle.snap_writer.specs.Life.{IsShown, IsAhead, HoldsOf, Rests, Begins, Stores, Does, HasLived, StoresFirst}
use Rattle.snap_disk.specs.declared.disk.Disk as Disk

module _ {D : Type 0} (disk : Disk.Ghosts D) where
  -- an update under the rule Go, whatever its store returns
  module _ (a z : WriterState D) (v : List ℕ) (shown : IsShown a)
      (unfenced : a.segment.begun ≡ None) (noted : a.seat.phase ≡ Shown)
      (honest_then : disk.is_honest z.segment.device → disk.is_honest a.segment.device)
      (any_time : disk.is_honest z.segment.device
      → LeavesOnly disk a.segment.device z.segment.device
      (IsEither a.segment.index a.segment.count (number_of a) (value_of a) v)) where
    -- the number and value shown are those stored
    of_stored : (P : ℕ → List ℕ → Type 0) → P (number_of a) (value_of a) → P a.segment.number a.segment.value
    of_stored P is = subst (λ (y : ℕ × List ℕ). P y.0 y.1) (λ t. (sym shown.0 t, sym shown.1 t)) is

    -- the segment after a store that succeeded, and after one that failed
    abbrev done : SegmentState D
    done = record a.segment {
      device = z.segment.device;
      number = a.segment.number + 1;
      value = v;
      spare_open = true;
    }

    abbrev fenced : SegmentState D
    fenced = record a.segment { device = z.segment.device; begun = Some v }

    -- its seat notes that a store was begun, and that it has ended
    abbrev noting : UpdatePhase → SegmentState D → WriterState D
    noting f s = record { segment = s; seat = record a.seat { phase = f } }

    abbrev began : WriterState D
    began = noting Storing a.segment

    abbrev between : WriterState D
    between = noting Storing z.segment

    begins : Begins disk a began
    begins = record { segment_is = refl; shown = (shown, unfenced); noted = noted; seat_is = refl }

    stores : (z.segment ≡ done) ⊎ (z.segment ≡ fenced) → Rests disk between → Stores disk v began between
    stores ends rests = record {
      seat_is = refl;
      went = record {
        noted = refl;
        unfenced = unfenced;
        shown = shown;
        any_time = of_stored (λ k u. disk.is_honest z.segment.device
            → LeavesOnly disk a.segment.device z.segment.device
            (IsEither a.segment.index a.segment.count k u v)) any_time;
      };
      ends = ends;
      rests = rests;
      honest_then = honest_then;
    }

    pub went_on : (result : Result ℕ Refusal) → IsSameSeat a.seat z.seat
        → OnOk result (Advances a z v) → OnErr result (Fails a z v)
        → (disk.is_honest z.segment.device → OnOk result (IsSettled (disk.device z.segment.device)
        × ((x : List ℕ) → MayLeave (disk.device z.segment.device) x
        → IsFileOf a.segment.index a.segment.count (number_of a + 1) v x)))
        → (disk.is_honest z.segment.device → OnErr result ((x : List ℕ) → MayLeave (disk.device z.segment.device) x
        → IsEither a.segment.index a.segment.count (number_of a) (value_of a) v x)) → StoresFirst disk v a z
    went_on (Ok n) seat advances fails last either =
        let ahead : IsAhead between =
        subst (λ (s : SegmentState D). IsAhead (noting Storing s))
        (sym advances.stored) (ap (λ (k : ℕ). k + 1) shown.0, unfenced) in
        let told : EndsWith a.seat z.seat z.segment.value =
        subst (λ (s : SegmentState D). EndsWith a.seat z.seat s.value) (sym advances.stored) advances.shown in
        record {
          began = began;
          begins = begins;
          stored = between;
          stores = stores (inl advances.stored) (λ hon x left.
              subst (λ (s : SegmentState D). HoldsOf s x) (sym advances.stored)
              (inl (of_stored (λ k u. IsFileOf a.segment.index a.segment.count (k + 1) v x)
              ((last hon).1 x left))));
          after = inl (
            noting Stored z.segment,
            record { segment_is = refl; stored = ahead; noted = refl; seat_is = refl },
            record {
              segment_is = refl;
              stored = ahead;
              noted = refl;
              same_seat = record { table = seat.table; plan = seat.plan; low = seat.low; high = seat.high };
              shown = record { between = told.between; seen = told.seen; others = told.others };
              phase = advances.phase;
            },
          );
        }
    went_on (Err why) seat advances fails last either = record {
      began = began;
      begins = begins;
      stored = between;
      stores = stores (inr fails.fenced) (λ hon x left.
          subst (λ (s : SegmentState D). HoldsOf s x) (sym fails.fenced)
          (⊎_elim (λ old. inl old) (λ new. inr (v, refl, new))
          (of_stored (λ k u. IsEither a.segment.index a.segment.count k u v x)
          (either hon x left))));
      after = inr (record { segment_is = refl; grows = fails.unshown });
    }

  -- that is a life
  pub lived_first : (v : List ℕ) (a z : WriterState D) → StoresFirst disk v a z → HasLived disk a z
  lived_first v a z first =
      let began : Does disk a first.began = inl (inr (inl first.begins)) in
      let stored : Does disk first.began first.stored = inr (v, first.stores) in
      ⊎_elim
      (λ shown. (
        first.began ∷ first.stored ∷ shown.0 ∷ z ∷ [],
        (began, (stored, (inl (inr (inr (inl shown.1))), (inl (inr (inr (inr shown.2))), refl)))),
      ))
      (λ sees. (first.began ∷ first.stored ∷ z ∷ [], (began, (stored, (inl (inl sees), refl))))) first.after

  pub met : (a z : WriterState D) → z.segment ≡ a.segment → Meets a.seat z.seat → HasLived disk a z
  met a z segment meets =
      (z ∷ [], (inl (inl (record { segment_is = segment; grows = meets.grows })), refl))
