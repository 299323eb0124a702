-- At each place in a writer's life its device and its seat agree.
use Rattle.std.proofs.Common.{◌≡◌, ◌⊎◌, ⊎_elim, ℕ, ◌+◌, inl, inr, List, [], ◌∷◌, refl, ap, sym, ◌∙◌, arith}
use Rattle.std.proofs.lemmas.List.{append_assoc}
use Rattle.snap_segment.specs.Segment.{SegmentState}
use Rattle.snap_history.{specs.History.IsBeginning, proofs.Beginnings.beginning-self, proofs.Beginnings.beginning-trans}
use Rattle.snap_register.specs.{declared.plan.Plan.Plan, Seat.Known, declared.plan.UpdatePhase.UpdatePhase}
use Rattle.snap_register.specs.declared.plan.UpdatePhase.TheVariants.{Shown, Storing, Stored}
use Rattle.snap_writer.specs.{Writer.WriterState, Writer.number_of, Writer.value_of, Update.IsSameSeat, Update.EndsWith}
use Rattle.snap_writer.proofs.Shown.{same_grown, number_grown, value_grown, number_shown, value_shown}
use Rattle.snap_writer.specs.Life.{Place, seen_at, HasInPhase, Rests, Sees, Begins, Stores, Ends, Shows, Does, Lived}
use Rattle.snap_writer.specs.Life.{IsAt, IsInStore, IsIn, IsWriterOf, IsPlaceOf}
use Rattle.snap_disk.specs.declared.disk.Disk as Disk

-- an update that a seat shows comes after all that it had seen
shown_later : (a b : Known) (v : List ℕ) → EndsWith a b v → IsBeginning a.seen b.seen
shown_later a b v e = grind (arith, append_assoc)

module _ {D : Type 0} (disk : Disk.Ghosts D) where
  -- a step on the seat leaves the segment as it is
  pub seat_step : (a b : WriterState D) → Sees disk a b ⊎ (Begins disk a b ⊎ (Ends disk a b ⊎ Shows disk a b))
      → b.segment ≡ a.segment
  seat_step a b (inl sees) = sees.segment_is
  seat_step a b (inr (inl begins)) = begins.segment_is
  seat_step a b (inr (inr (inl ends))) = ends.segment_is
  seat_step a b (inr (inr (inr shows))) = shows.segment_is

  step_later : (a b : WriterState D) → Does disk a b → IsBeginning a.seat.seen b.seat.seen
  step_later a b (inl (inl sees)) = sees.grows.later
  step_later a b (inl (inr (inl begins))) = rw begins.seat_is (beginning-self a.seat.seen)
  step_later a b (inl (inr (inr (inl ends)))) = rw ends.seat_is (beginning-self a.seat.seen)
  step_later a b (inl (inr (inr (inr shows)))) = shown_later a.seat b.seat a.segment.value shows.shown
  step_later a b (inr stores) = rw stores.1.seat_is (beginning-self a.seat.seen)

  module _ (plan : Plan) (n i : ℕ) where
    abbrev Is : WriterState D → Type 0
    Is w = IsWriterOf disk plan n i w

    -- it writes the same segment, and has stored this in the phase f
    same_writer : (a b : WriterState D) (t : SegmentState D) (f : UpdatePhase) → Is a → IsSameSeat a.seat b.seat
        → b.segment ≡ t → t.index ≡ i → t.count ≡ n → b.seat.phase ≡ f → HasInPhase t (number_of b) (value_of b) f
        → Rests disk b → Is b
    same_writer a b t f is seat same index count phase stored rests = grind (arith)

    -- the seat with another phase
    abbrev same_but : Known → UpdatePhase → Known
    same_but k f = record k { phase = f }

    noted_seat : (a b : WriterState D) (f : UpdatePhase) → b.seat ≡ same_but a.seat f → IsSameSeat a.seat b.seat
    noted_seat a b f is = rw is (record { table = refl; plan = refl; low = refl; high = refl })

    -- what was shown last stays so while the seat sees more
    seen_still : (P : ℕ → List ℕ → Type 0) (a b : WriterState D) → Is a → Sees disk a b
        → P (number_of a) (value_of a) → P (number_of b) (value_of b)
    seen_still P a b is s shown = grind (arith, number_grown, value_grown)

    sees_is : (a b : WriterState D) → Is a → Sees disk a b → Is b
    sees_is a b is s = same_writer a b a.segment a.seat.phase is (same_grown a.seat b.seat s.grows) s.segment_is
        is.index_is is.count_is s.grows.phase (seen_still (λ k u. HasInPhase a.segment k u a.seat.phase) a b is s
        is.phase_is) (rw s.segment_is is.rests)

    begins_is : (a b : WriterState D) → Is a → Begins disk a b → Is b
    begins_is a b is s = same_writer a b a.segment Storing is (noted_seat a b Storing s.seat_is) s.segment_is
        is.index_is is.count_is (ap (λ (k : Known). k.phase) s.seat_is) (rw s.seat_is (inl s.shown.0))
        (rw s.segment_is is.rests)

    stores_is : (v : List ℕ) (a b : WriterState D) → Is a → Stores disk v a b → Is b
    stores_is v a b is s =
        let seat : IsSameSeat a.seat b.seat =
        rw s.seat_is (record { table = refl; plan = refl; low = refl; high = refl }) in
        let phase : b.seat.phase ≡ Storing = rw s.seat_is s.went.noted in
        let shown : (a.segment.number ≡ number_of b) × (a.segment.value ≡ value_of b) = rw s.seat_is s.went.shown in
        ⊎_elim
        (λ done. same_writer a b _ Storing is seat done is.index_is is.count_is phase
        (inr (ap (λ (k : ℕ). k + 1) shown.0, s.went.unfenced)) s.rests)
        (λ failed. same_writer a b _ Storing is seat failed is.index_is is.count_is phase (inl shown) s.rests) s.ends

    ends_is : (a b : WriterState D) → Is a → Ends disk a b → Is b
    ends_is a b is s = same_writer a b a.segment Stored is (noted_seat a b Stored s.seat_is) s.segment_is is.index_is
        is.count_is (ap (λ (k : Known). k.phase) s.seat_is) (rw s.seat_is s.stored) (rw s.segment_is is.rests)

    shows_is : (a b : WriterState D) → Is a → Shows disk a b → Is b
    shows_is a b is s =
        let number = number_shown a.seat b.seat a.segment.value s.same_seat s.shown in
        let value = value_shown a.seat b.seat a.segment.value s.same_seat s.shown in
        same_writer a b a.segment Shown is s.same_seat s.segment_is is.index_is is.count_is s.phase
        ((s.stored.0 ∙ sym number, sym value), s.stored.1) (rw s.segment_is is.rests)

    pub does_is : (a b : WriterState D) → Is a → Does disk a b → Is b
    does_is a b is (inl (inl sees)) = sees_is a b is sees
    does_is a b is (inl (inr (inl begins))) = begins_is a b is begins
    does_is a b is (inl (inr (inr (inl ends)))) = ends_is a b is ends
    does_is a b is (inl (inr (inr (inr shows)))) = shows_is a b is shows
    does_is a b is (inr stores) = stores_is stores.0 a b is stores.1

    abbrev Fits : WriterState D → WriterState D → Place D → Type 0
    Fits a z p = IsPlaceOf disk plan n i p × IsBeginning a.seat.seen (seen_at p) × IsBeginning (seen_at p) z.seat.seen

    at_rest : (a z : WriterState D) (p : Place D) → Is a → IsAt disk z a p → Fits a z p
    at_rest a z p is (m, sees, seen, at) =
        rw at (record { writer_is = sees_is a m is sees; storing_is = record {} }, sees.grows.later, seen)

    mid_store : (a z : WriterState D) (p : Place D) → Is a → IsInStore disk z a p → Fits a z p
    mid_store a z p is (m, v, d, sees, seen, went, at) =
        let shown = seen_still (λ k u. (a.segment.number ≡ k) × (a.segment.value ≡ u)) a m is sees went.shown in rw at (
          record {
            writer_is = sees_is a m is sees;
            storing_is = rw sees.segment_is (sees.grows.phase ∙ went.noted, shown, λ hon. (went.any_time hon).each);
          },
          sees.grows.later,
          seen,
        )

    fits_here : (a z : WriterState D) (p : Place D) → Is a → IsAt disk z a p ⊎ IsInStore disk z a p → Fits a z p
    fits_here a z p is = ⊎_elim (at_rest a z p is) (mid_store a z p is)

    pub life_fits : (a z : WriterState D) (life : List (WriterState D)) (p : Place D) → Is a → Lived disk a life z
        → IsIn disk z a life p → Fits a z p
    life_fits a z [] p is lived there = fits_here a z p is there
    life_fits a z (b ∷ life) p is lived (inl here) = fits_here a z p is here
    life_fits a z (b ∷ life) p is lived (inr later) =
        let rest = life_fits b z life p (does_is a b is lived.0) lived.1 later in
        (rest.0, beginning-trans a.seat.seen b.seat.seen (seen_at p) (step_later a b lived.0) rest.1, rest.2)
