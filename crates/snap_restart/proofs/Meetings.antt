-- The knowledge of a scanner that has met all writers twice, and the contents of their devices then.
use Rattle.std.proofs.Common.{◌≡◌, ℕ, ◌+◌, ◌<◌, List, slice_get, slice_set, Some, refl, ap, sym, ◌∙◌, arith}
use Rattle.snap_segment.specs.Segment.{SegmentState, IsKept}
use Rattle.snap_history.proofs.Beginnings.{beginning-self, beginning-trans, number-beginning}
use Rattle.snap_history.{specs.History.Update, specs.History.IsBeginning, specs.Pairs.Pairs, proofs.Pairs.partner}
use Rattle.snap_register.specs.{History.starts, Seat.Known, Seat.Grows, Seat.AreTogether, Seat.number_in, Seat.value_in}
use Rattle.snap_memory.proofs.{Collects.grows_self, Collects.grows_more, ScanAnswer.same_value}
use Rattle.snap_writer.specs.Writer.{WriterState, number_of, value_of}
use Rattle.snap_writer.proofs.Shown.{number_grown, value_grown}
use Rattle.snap_restart.specs.Closed.{AreBack, IsHistory, HoldsAfter, HasMet, IsTold, Rests}
use Rattle.snap_restart.proofs.Pairs.{partner_of, pairs_self, pairs_moved}
use Rattle.snap_disk.specs.declared.disk.Disk as Disk

-- a property of all items before place k, and of the item there
pub one_more : {A : Type 0} (P : A → Type 0) (xs : List A) (k : ℕ) (x : A) → slice_get xs k ≡ Some x
    → ((i : ℕ) (y : A) → slice_get xs i ≡ Some y → i < k → P y) → P x → (i : ℕ) (y : A)
    → slice_get xs i ≡ Some y → i < k + 1 → P y
one_more P xs k x there before this i y at low = grind arith

-- ---- meetings

pub together_grown : (a b c d : Known) → AreTogether a b → Grows a c → Grows b d → AreTogether c d
together_grown a b c d t g h = record { table = h.table ∙ t.table ∙ sym g.table; plan = h.plan ∙ t.plan ∙ sym g.plan }

-- one scanner more was met
pub heard_step : (olds : List Known) (k : ℕ) (b met seat grown : Known) → slice_get olds k ≡ Some b
    → ((i : ℕ) (x : Known) → slice_get olds i ≡ Some x → i < k → IsBeginning x.seen seat.seen)
    → Grows b met → Grows seat grown → met.seen ≡ grown.seen
    → (i : ℕ) (x : Known) → slice_get olds i ≡ Some x → i < k + 1 → IsBeginning x.seen grown.seen
heard_step olds k b met seat grown there before g more is =
    one_more (λ (x : Known). IsBeginning x.seen grown.seen) olds k b there
    (λ i x at low. beginning-trans x.seen seat.seen grown.seen (before i x at low) more.later) (rw is at g.later)

-- the scanner has just met this writer
pub told_now : (start scanner met a grown : Known) → Grows start scanner → Grows scanner met
    → Grows a grown → met.seen ≡ grown.seen → IsTold a start met
told_now start scanner met a grown first more g is = record {
  heard = rw is g.later;
  no_more = λ j l h.
      let later = beginning-trans start.seen scanner.seen met.seen first.later more.later in
      let rises = number-beginning (starts a.plan) start.seen met.seen j later in
      omega (arith, g.own j l h, rises, ap (λ (h : List Update). number_in a h j) is);
}

module _ {D : Type 0} where
  pub met_self : (w : WriterState D) → HasMet w w
  met_self w = record { segment_is = refl; grows = grows_self w.seat }

  pub met_more : (a b c : WriterState D) → HasMet a b → HasMet b c → HasMet a c
  met_more a b c f g =
      record { segment_is = g.segment_is ∙ f.segment_is; grows = grows_more a.seat b.seat c.seat f.grows g.grows }

  pub told_step : (olds : List (WriterState D)) (k : ℕ) (w : WriterState D) (start scanner met grown : Known)
      → slice_get olds k ≡ Some w → ((i : ℕ) (x : WriterState D) → slice_get olds i ≡ Some x → i < k
      → IsTold x.seat start scanner) → Grows start scanner → Grows scanner met → Grows w.seat grown
      → met.seen ≡ grown.seen → (i : ℕ) (x : WriterState D) → slice_get olds i ≡ Some x → i < k + 1
      → IsTold x.seat start met
  told_step olds k w start scanner met grown there before first more g is =
      one_more (λ (x : WriterState D). IsTold x.seat start met) olds k w there
      (λ i x at low. let t = before i x at low in
      record { heard = beginning-trans x.seat.seen scanner.seen met.seen t.heard more.later; no_more = t.no_more })
      (told_now start scanner met w.seat grown first more g is)

  -- the seats of one opening are together, also after they have seen more
  pub together_after : (w0 w1 : List (WriterState D)) (scanners : List Known) (b s : Known)
      → AreBack w0 scanners → slice_get scanners 0 ≡ Some b → Pairs (λ _. HasMet) w0 w1 → Grows b s
      → (i : ℕ) (w : WriterState D) → slice_get w1 i ≡ Some w → AreTogether s w.seat
  together_after w0 w1 scanners b s back at_b p g i w at =
      let x = partner_of (λ _. HasMet) w0 w1 i w p at in
      let a = back.writers_are i x.0 x.1 in
      let r = back.scanners_are 0 b at_b in
      together_grown b x.0.seat s w.seat
      (record { table = a.table_is ∙ sym r.table_is; plan = a.plan_is ∙ sym r.plan_is }) g x.2.grows

  -- only the first writer took part
  pub first_met : (w0 : List (WriterState D)) (x y : WriterState D) → slice_get w0 0 ≡ Some x
      → HasMet x y → Pairs (λ _. HasMet) w0 (slice_set w0 0 y)
  first_met w0 x y at met = pairs_moved HasMet met_more w0 w0 0 x y at met (pairs_self (λ _. HasMet) (λ _. met_self) w0)

  -- after the first round the scanner has seen everything, as the second round shows
  pub history_told : (w0 w1 w2 : List (WriterState D)) (scanners : List Known) (first : WriterState D)
      (s1 s2 s3 : Known) → AreBack w0 scanners → Pairs (λ _. HasMet) w0 w1 → Pairs (λ _. HasMet) w1 w2
      → ((i : ℕ) (w : WriterState D) → slice_get w1 i ≡ Some w → IsTold w.seat s1 s2)
      → ((i : ℕ) (w : WriterState D) → slice_get w2 i ≡ Some w → IsTold w.seat s2 s3) → slice_get w1 0 ≡ Some first
      → ((k : ℕ) (b : Known) → slice_get scanners k ≡ Some b → IsBeginning b.seen first.seat.seen)
      → (h : List Update) × IsHistory h w0 scanners
  history_told w0 w1 w2 scanners first s1 s2 s3 back p q t u at_first heard = (
    s2.seen,
    record {
      writers_saw = λ i w at.
          let a = back.writers_are i w at in
          let x = partner (λ _. HasMet) w0 w1 i w p at in
          let y = partner (λ _. HasMet) w1 w2 i x.0 q x.1 in
          let met = (met_more w x.0 y.0 x.2 y.2).grows in
          let saw = beginning-trans w.seat.seen x.0.seat.seen s2.seen x.2.grows.later (t i x.0 x.1).heard in
          let rises = number-beginning (starts w.seat.plan) w.seat.seen s2.seen i saw in
          let own = met.own i (omega arith) (omega arith) in
          let none = (u i y.0 y.1).no_more i (omega arith) (omega arith) in
          (saw, omega arith);
      scanners_saw = λ k b at. beginning-trans b.seen first.seat.seen s2.seen (heard k b at) (t 0 first at_first).heard;
    },
  )

  -- the devices returned hold the history's numbers and values
  pub holds_after : (disk : Disk.Ghosts D) (h : List Update) (writers met : List (WriterState D))
      (scanners : List Known) → AreBack writers scanners → IsHistory h writers scanners
      → Pairs (λ _. HasMet) writers met → ((i : ℕ) (w : WriterState D) → slice_get met i ≡ Some w → Rests disk w)
      → (i : ℕ) (w : WriterState D) → slice_get writers i ≡ Some w → HoldsAfter disk h i w
  holds_after disk h writers met scanners back history p rest i w at =
      let x = partner (λ _. HasMet) writers met i w p at in
      let same = x.2.segment_is in
      let r = rest i x.0 x.1 in
      let a = back.writers_are i w at in
      let saw = history.writers_saw i w at in
      let alone : w.seat.high ≡ w.seat.low + 1 = omega arith in
      let number : w.segment.number ≡ number_in w.seat w.seat.seen i =
      rw (same, number_grown w.seat x.0.seat x.2.grows alone, a.low_is) at r.number_is in
      let value : w.segment.value ≡ value_in w.seat w.seat.seen i =
      rw (same, value_grown w.seat x.0.seat x.2.grows alone, a.low_is) at r.value_is in
      let number_is : w.segment.number ≡ number_in w.seat h i = omega (arith, number, saw.1) in
      let value_is : w.segment.value ≡ value_in w.seat h i = value
      ∙ same_value (starts w.seat.plan) h w.seat.seen h i saw.0 (beginning-self h) (omega (arith, saw.1)) in
      let kept = rw same at r.kept in
      record { number_is = number_is; value_is = value_is; file = λ hon. rw (← number_is, ← value_is) (kept hon) }

-- ---- devices that are returned

module _ {D : Type 0} (disk : Disk.Ghosts D) where
  -- a writer's device, taken out of its segment
  pub rests_moved : (w : WriterState D) (t : SegmentState D) (d : D) → t ≡ w.segment → d ≡ t.device
      → w.segment.number ≡ number_of w → w.segment.value ≡ value_of w
      → (disk.is_honest d → IsKept t.index t.count t.number t.value t.begun t.spare_open (disk.device d)) → Rests disk w
  rests_moved w t d same is number value kept = grind arith
