-- A crash of all devices: at a consistent cut, and at a moment of the registers.
use Rattle.std.proofs.Common.{◌≡◌, ⊎_elim, ℕ, zero, suc, ◌<◌, ◌≤◌, inl, inr, List, [], ◌∷◌, length, Some}
use Rattle.std.proofs.Common.{slice_get, refl, ap, sym, ◌∙◌, arith}
use Rattle.std.proofs.lemmas.{List.length-append, List.length-map, Option.same_Some}
use Rattle.snap_register.specs.{Rule.Kept, Rule.segments, Rule.IsWriter, History.starts, History.updates}
use Rattle.snap_register.{proofs.Updates.updates_count, proofs.Updates.beginning_is, specs.Registers.Moment}
use Rattle.snap_register.specs.declared.plan.{Plan.Plan, SeatView.SeatView, UpdatePhase.TheVariants.Storing}
use Rattle.snap_slot.specs.Layout.{IsFileOf}
use Rattle.snap_history.specs.History.{Update, IsBeginning, number_after, value_after}
use Rattle.snap_history.proofs.Beginnings.{beginning-self, beginning-trans, number-beginning}
use Rattle.snap_history.{specs.Pairs.Pairs, proofs.Pairs.element}
use Rattle.snap_memory.proofs.ScanAnswer.{same_value}
use Rattle.snap_writer.specs.Writer.{number_of, value_of}
use Rattle.snap_writer.specs.Life.{Place, seen_at, CrashLeaves, IsPlaceOf}
use Rattle.snap_restart.specs.LifeCrash.{all_seen, HoldsIn, Begun, IsRecovered}
use Rattle.snap_restart.specs.LifeLaws.{CutLaw, ConsistentLaw, InstantLaw, IsOf, IsSeatOf, IsSeenIn}
use Rattle.snap_restart.proofs.{LifeOrder.longest, LifeOrder.has_early, Merge.FileAt, Merge.all_found}
use Rattle.snap_restart.proofs.{Placed.same_file, Placed.phase_leaves, Placed.in_any, Pairs.partner_of, Lives.life_fits}
use mathlib.Core.Option.{some}
use lib.ListN.{get_elem?}
use Rattle.snap_disk.specs.declared.disk.Disk as Disk

-- ---- the histories that seats have seen

module _ {D : Type 0} where
  seen_there : (writers : List (Place D)) (scanners : List (List Update)) (i : ℕ) (p : Place D)
      → slice_get writers i ≡ Some p → slice_get (all_seen writers scanners) i ≡ Some (seen_at p)
  seen_there [] scanners i p e = absurd (cc e)
  seen_there (w ∷ ws) scanners zero p e = ap (λ (q : Place D). Some (seen_at q)) (same_Some w p e)
  seen_there (w ∷ ws) scanners (suc i) p e = seen_there ws scanners i p e

  -- a property of all that writers have seen, and of all that scanners have seen, holds of each
  pub each_seen : (P : List Update → Type 0) (writers : List (Place D)) (scanners : List (List Update))
      → ((i : ℕ) (p : Place D) → slice_get writers i ≡ Some p → P (seen_at p))
      → ((k : ℕ) (x : List Update) → slice_get scanners k ≡ Some x → P x) → (j : ℕ) (x : List Update)
      → slice_get (all_seen writers scanners) j ≡ Some x → P x
  each_seen P [] scanners theirs others j x e = others j x e
  each_seen P (w ∷ ws) scanners theirs others zero x e = rw (same_Some (seen_at w) x e) at (theirs 0 w refl)
  each_seen P (w ∷ ws) scanners theirs others (suc j) x e =
      each_seen P ws scanners (λ i p at. theirs (suc i) p at) others j x e

-- ---- consequences of the registers' rule at a moment

seat_saw : (plan : Plan) (s : Moment) (kept : Kept plan s) (j : ℕ) (v : SeatView)
    → get_elem? s.views j ≡ some v → IsBeginning (updates v.seen) (updates kept.history)
seat_saw plan s kept j v at = beginning_is v.seen kept.history (kept.each_seat j v at).seen

pub seen_saw : (plan : Plan) (s : Moment) (kept : Kept plan s) (seen : List Update)
    → IsSeenIn s.views seen → IsBeginning seen (updates kept.history)
seen_saw plan s kept seen (j, v, at, is) = rw is (seat_saw plan s kept j v at)

-- the seat of segment i's writer, which has shown all its updates in the history
pub record Agrees (plan : Plan) (h : List Update) (i : ℕ) (seen : List Update) : Type 0 where
  pub saw : IsBeginning seen h
  pub whole : number_after (starts plan) h i ≤ number_after (starts plan) seen i

seat_agrees : (plan : Plan) (s : Moment) (kept : Kept plan s) (i j : ℕ) (v : SeatView) → get_elem? s.views j ≡ some v
    → IsWriter v i → Agrees plan (updates kept.history) i (updates v.seen)
seat_agrees plan s kept i j v at writes =
    let role = (kept.each_seat j v at).role i (omega arith) in record {
      saw = seat_saw plan s kept j v at;
      whole = omega (arith, updates_count i v.seen, updates_count i kept.history, ap length (role.all (omega arith)));
    }

place_agrees : {D : Type 0} (plan : Plan) (s : Moment) (kept : Kept plan s) (i : ℕ) (p : Place D)
    → IsSeatOf s.views i p → Agrees plan (updates kept.history) i (seen_at p)
place_agrees plan s kept i p (j, v, at, writes, is) = rw is (seat_agrees plan s kept i j v at writes)

pub moment_consistent : {D : Type 0} → ConsistentLaw D
moment_consistent plan s kept writers scanners seats seen j x e i p at =
    let h = updates kept.history in
    let begins = each_seen (λ (y : List Update). IsBeginning y h) writers scanners
    (λ k q there. (place_agrees plan s kept k q (seats k q there)).saw)
    (λ k y there. seen_saw plan s kept y (seen k y there)) j x e in
    omega (arith, number-beginning (starts plan) x h i begins, (place_agrees plan s kept i p (seats i p at)).whole)

-- ---- the contents of the files

-- what the file holds by what its writer's seat has seen, it holds by the history
agreed : (plan : Plan) (h : List Update) (n i : ℕ) (seen : List Update) (begun : List ℕ → Type 0) (b : List ℕ)
    → Agrees plan h i seen → HoldsIn i n (number_after (starts plan) seen i) (value_after (starts plan) seen i) begun b
    Storing → HoldsIn i n (number_after (starts plan) h i) (value_after (starts plan) h i) begun b Storing
agreed plan h n i seen begun b a holds =
    let same : number_after (starts plan) seen i ≡ number_after (starts plan) h i =
    omega (arith, number-beginning (starts plan) seen h i a.saw, a.whole) in
    let still = same_value (starts plan) h seen h i a.saw (beginning-self h) same in
    ⊎_elim (λ old. inl (same_file refl refl same still old)) (λ new. inr (new.0, new.1, rw same at new.2)) holds

all_hold : (plan : Plan) (n : ℕ) (h : List Update) (begun : ℕ → List ℕ → Type 0) (files : List (List ℕ))
    → length files ≡ n → ((i : ℕ) (b : List ℕ) → slice_get files i ≡ Some b → HoldsIn i n
    (number_after (starts plan) h i) (value_after (starts plan) h i) (begun i) b Storing)
    → IsRecovered n (starts plan) h begun files
all_hold plan n h begun files count each =
    all_found n (starts plan) h begun files count (λ i low.
    let f = element files i (omega arith) in
    let all : (k : ℕ) (v : List ℕ) → IsFileOf i n k v f.0 → FileAt n files i k v =
    λ k v x b e. rw (same_Some f.0 b (sym f.1 ∙ e)) at x in
    ⊎_elim (λ old. inl (all _ _ old)) (λ new. inr (new.0, new.1, all _ _ new.2)) (each i f.0 f.1))

pub instant_recovers : InstantLaw
instant_recovers plan s kept begun files count each =
    let h = updates kept.history in
    all_hold plan (segments plan) h (IsOf begun) files count (λ i b at.
    let (j, v, there, writes, holds) = each i b at in
    agreed plan h (segments plan) i (updates v.seen) (IsOf begun i) b (seat_agrees plan s kept i j v there writes)
    (in_any _ _ _ _ _ b v.phase holds))

module _ {D : Type 0} (disk : Disk.Ghosts D) where
  recovered : (plan : Plan) (n : ℕ) (h : List Update) (writers : List (Place D)) (files : List (List ℕ))
      → length writers ≡ n → ((i : ℕ) (p : Place D) → slice_get writers i ≡ Some p → IsPlaceOf disk plan n i p
      × Agrees plan h i (seen_at p)) → Pairs (λ _. CrashLeaves disk) writers files
      → IsRecovered n (starts plan) h (Begun writers) files
  recovered plan n h writers files count each left =
      all_hold plan n h (Begun writers) files (sym left.size ∙ count) (λ i b at.
      let p = partner_of _ writers files i b left at in
      let is = each i p.0 p.1 in
      let of = is.0.writer_is in
      let number : number_of p.0.writer ≡ number_after (starts plan) (seen_at p.0) i = cc in
      let value : value_of p.0.writer ≡ value_after (starts plan) (seen_at p.0) i = cc in
      agreed plan h n i (seen_at p.0) (Begun writers i) b is.1
      (⊎_elim (λ old. inl (same_file refl refl number value old))
      (λ new. inr (new.0, (p.0, p.1, new.1), rw number at new.2))
      (in_any _ _ _ _ _ b _ (phase_leaves disk plan n i p.0 is.0 b p.2))))

  -- ---- a consistent cut

  pub cut_recovers : CutLaw disk
  cut_recovers plan h writers scanners files least lived saw consistent left =
      let start = starts plan in
      let n = length writers in
      let fits : (i : ℕ) (p : Place D) → slice_get writers i ≡ Some p
      → IsPlaceOf disk plan n i p × IsBeginning (seen_at p) h =
      λ i p e. (
      let x = lived i p e in
      let f = life_fits disk plan n i x.0 x.1 x.2 p x.3 x.4 x.5 in
      (f.0, beginning-trans (seen_at p) x.1.seat.seen h f.2 x.6)) in
      let begins = each_seen (λ (y : List Update). IsBeginning y h) writers scanners (λ i p e. (fits i p e).1) saw in
      let long : 0 < length (all_seen writers scanners) = simp (length-append, length-map) (omega arith) in
      let l = longest (all_seen writers scanners) h long begins in
      let within : IsBeginning l.it h = begins l.place l.it l.there in
      let sees : (i : ℕ) (p : Place D) → slice_get writers i ≡ Some p → IsBeginning (seen_at p) l.it =
      λ i p e. l.whole i (seen_at p) (seen_there writers scanners i p e) in
      record {
        visible = l.it;
        within = within;
        seen_by = (l.place, l.there);
        all_visible = l.whole;
        acknowledged = λ i k v p e has low. (
            let more = number-beginning start (seen_at p) l.it i (sees i p e) in
            has_early start l.it h i k v within has (omega (arith, low, more)));
        recovered = recovered plan n l.it writers files refl (λ i p e. (
          (fits i p e).0,
          record { saw = sees i p e; whole = consistent l.place l.it l.there i p e },
        )) left;
      }

  -- ---- a moment of the registers

  pub moment_recovers : (plan : Plan) (n : ℕ) (s : Moment) (kept : Kept plan s) (writers : List (Place D))
      (files : List (List ℕ)) → length writers ≡ n
      → ((i : ℕ) (p : Place D) → slice_get writers i ≡ Some p → IsPlaceOf disk plan n i p × IsSeatOf s.views i p)
      → Pairs (λ _. CrashLeaves disk) writers files
      → ((j : ℕ) (v : SeatView) → get_elem? s.views j ≡ some v → IsBeginning (updates v.seen) (updates kept.history))
      × IsRecovered n (starts plan) (updates kept.history) (Begun writers) files
  moment_recovers plan n s kept writers files count each left = (
    seat_saw plan s kept,
    recovered plan n (updates kept.history) writers files count
        (λ i p e. ((each i p e).0, place_agrees plan s kept i p (each i p e).1)) left,
  )
