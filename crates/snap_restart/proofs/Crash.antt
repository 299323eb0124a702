-- A crash at any moment from an opening on, and at any cut once all writers and scanners are back.
use Rattle.std.proofs.Common.{◌≡◌, ℕ, zero, suc, inl, List, [], ◌∷◌, ◌++◌, length, map, Some, slice_get, refl, sym, ◌∙◌}
use Rattle.std.proofs.{Common.ap, Common.arith, lemmas.List.length-map, lemmas.Option.same_Some}
use Rattle.snap_disk.specs.declared.refusal.Refusal.{Refusal}
use Rattle.snap_slot.proofs.{Readings.holds_same, Rest.at_rest_leaves}
use Rattle.snap_segment.specs.Segment.{SegmentState}
use Rattle.snap_history.specs.{History.Update, History.Start, History.number_after, History.value_after, Pairs.Pairs}
use Rattle.snap_history.proofs.{Pairs.element, Pairs.partner, Pairs.Pairs-map, Beginnings.beginning-trans}
use Rattle.snap_register.specs.{declared.plan.Plan.Plan, History.starts, History.updates, Seat.Known}
use Rattle.snap_writer.specs.Writer.{WriterState, number_of, value_of, phase_of, IsPaired}
use Rattle.snap_writer.specs.Life.{IsWriterOf}
use Rattle.snap_restart.specs.Opened.{IsBack, IsOpened, IsStopped, AreFresh}
use Rattle.snap_restart.specs.Crash.{AnyMoment, AllHonest, AreOpened, StayKept, AnyCut}
use Rattle.snap_restart.specs.{LifeCrash.Begun, LifeCrash.IsRecovered, Closed.AreBack, Closed.IsHistory}
use Rattle.snap_restart.proofs.{LifeStarts.StartsAfter, LifeStarts.recovered_on, Placed.same_file, Lives.life_fits}
use Rattle.snap_restart.proofs.{LifeCrash.cut_recovers, LifeCrash.moment_recovers, Removals.get_map, Pairs.partner_of}
use Rattle.snap_disk.specs.declared.disk.Disk as Disk

pub unmap : {A B : Type 0} (f : A → B) (xs : List A) (i : ℕ) (y : B)
    → slice_get (map f xs) i ≡ Some y → (x : A) × (slice_get xs i ≡ Some x) × (f x ≡ y)
unmap f [] i y e = absurd (cc e)
unmap f (x ∷ xs) zero y e = (x, refl, same_Some (f x) y e)
unmap f (x ∷ xs) (suc i) y e = unmap f xs i y e

abbrev pub its_segment : {D : Type 0} → WriterState D → SegmentState D
its_segment w = w.segment

abbrev pub its_device : {D : Type 0} → WriterState D → D
its_device w = w.segment.device

-- the registers start with what the writers have, which is the memory after the base
pub starts_after : {D : Type 0} (writers : List (WriterState D)) (plan : Plan) (start : Start) (base : List Update)
    → ((i : ℕ) (w : WriterState D) → slice_get writers i ≡ Some w → (w.segment.number ≡ (starts plan i).0)
    × (w.segment.value ≡ (starts plan i).1)) → ((i : ℕ) (w : WriterState D) → slice_get writers i ≡ Some w
    → (w.segment.number ≡ number_after start base i) × (w.segment.value ≡ value_after start base i))
    → StartsAfter (length writers) start base (starts plan)
starts_after writers plan start base firsts bases i low =
    let w = element writers i low in
    let first = firsts i w.0 w.1 in
    let then = bases i w.0 w.1 in (sym first.0 ∙ then.0, sym first.1 ∙ then.1)

module _ {D : Type 0} (disk : Disk.Ghosts D) where
  -- ---- an opening

  -- the device on which a writer's segment was opened
  pub opened_on : (devices : List D) (writers : List (WriterState D))
      → Pairs (IsOpened disk (length devices)) devices (map its_segment writers)
      → (i : ℕ) (w : WriterState D) → slice_get writers i ≡ Some w
      → (d : D) × (slice_get devices i ≡ Some d) × IsOpened disk (length devices) i d w.segment
  opened_on devices writers were i w at =
      partner_of _ devices (map its_segment writers) i w.segment were (get_map its_segment writers i w at)

  -- the writer starts with what the files hold
  starts_with : (devices : List D) (writers : List (WriterState D))
      → Pairs (IsOpened disk (length devices)) devices (map its_segment writers) → (start : Start) (h : List Update)
      (begun : ℕ → List ℕ → Type 0)
      → (r : IsRecovered (length devices) start h begun (map (λ (d : D). (disk.device d).bytes) devices))
      → AllHonest disk writers → (i : ℕ) (w : WriterState D) → slice_get writers i ≡ Some w
      → (w.segment.number ≡ number_after start (h ++ r.begun_too) i)
      × (w.segment.value ≡ value_after start (h ++ r.begun_too) i)
  starts_with devices writers were start h begun r hon i w at =
      let bytes_of : D → List ℕ = λ d. (disk.device d).bytes in
      let d = opened_on devices writers were i w at in
      holds_same (bytes_of d.0) w.segment.number _ w.segment.value _ (d.2.found (hon i w at)).1
      (r.holds i (bytes_of d.0) (get_map bytes_of devices i d.0 d.1)).holds

  pub opened : (devices : List D) (writers : List (WriterState D)) (scanners : List Known) → AreFresh writers scanners
      → Pairs (IsOpened disk (length devices)) devices (map its_segment writers)
      → ((i : ℕ) (w : WriterState D) → slice_get writers i ≡ Some w → IsPaired w) → AreBack writers scanners
      → AreOpened disk devices writers
  opened devices writers scanners fresh were paired back =
      let size : length devices ≡ length writers = were.size ∙ length-map writers its_segment in
      let all_are : (i : ℕ) (w : WriterState D) → slice_get writers i ≡ Some w
      → IsWriterOf disk back.plan (length writers) i w = λ i w at. (
      let seat = back.writers_are i w at in
      let is = (opened_on devices writers were i w at).2 in
      let pair = paired i w at in
      record {
        plan_is = seat.plan_is;
        low_is = seat.low_is;
        high_is = seat.high_is;
        index_is = is.index_is;
        count_is = is.count_is ∙ size;
        phase_is = rw (pair.phase_is ∙ ap phase_of is.unfenced) ((pair.number_is, pair.value_is), is.unfenced);
        rests = λ hon x left. inl (same_file (sym is.index_is) (sym is.count_is) refl refl
            (at_rest_leaves i (length devices) w.segment.number w.segment.value
            w.segment.spare_open (disk.device w.segment.device) (is.rests hon) x left));
      }) in
      let starts_are : (i : ℕ) (w : WriterState D) → slice_get writers i ≡ Some w
      → (w.segment.number ≡ (starts back.plan i).0) × (w.segment.value ≡ (starts back.plan i).1) =
      λ i w at. (
      let pair = paired i w at in
      let seat = back.writers_are i w at in
      let none = (fresh.writers_are i w at).0 in
      let number : number_of w ≡ number_after (starts back.plan) [] i = cc in
      let value : value_of w ≡ value_after (starts back.plan) [] i = cc in
      (omega (arith, number, pair.number_is), pair.value_is ∙ value)) in
      let any_moment : AnyMoment disk back.plan writers =
      λ s kept places files count each left.
      moment_recovers disk back.plan (length writers) s kept places files count (λ i p at.
      let e = each i p at in
      let x = e.0 in
      ((life_fits disk back.plan (length writers) i x.0 x.1 x.2 p (all_are i x.0 x.3) x.4 x.5).0, e.1)) left in
      record {
        plan = back.plan;
        all = back.all;
        one_each = sym size;
        writers_are = all_are;
        starts_are = starts_are;
        any_moment = any_moment;
        again = λ start h crashed r hon.
            let with = starts_with devices writers were start h (Begun crashed) r hon in
            let after = starts_after writers back.plan start (h ++ r.begun_too) starts_are with in
            record {
              more = r.begun_too;
              were_begun = λ j u e. let b = r.were_begun j u e in (omega (arith, b.0, size), b.1);
              once = r.once;
              starts_are = with;
              any_moment = λ s kept places files count each left.
                  recovered_on (length writers) start (h ++ r.begun_too) (starts back.plan) after (updates kept.history)
                  (Begun places) files (any_moment s kept places files count each left).1;
            };
      }

  -- ---- a crash during an opening

  pub stay_kept : (olds news : List D) → Pairs (λ _. IsBack disk) olds news → StayKept disk olds news
  stay_kept olds news back n start h crashed files kept size left = kept files (record {
    size = size;
    each = λ i d b ed eb.
        let e = partner _ olds news i d back ed in
        let was = left i d e.0 b ed e.1 eb in
        (e.2.any_time was.0).each b was.1;
  })

  pub backs_opened : (devices : List D) (writers : List (WriterState D))
      → Pairs (IsOpened disk (length devices)) devices (map its_segment writers)
      → Pairs (λ _. IsBack disk) devices (map its_device writers)
  backs_opened devices writers were = record {
    size = were.size ∙ length-map writers its_segment ∙ sym (length-map writers its_device);
    each = λ i d e ed ee.
        let w = unmap its_device writers i e ee in
        rw w.2 at (were.each i d w.0.segment ed (get_map its_segment writers i w.0 w.1)).back;
  }

  pub backs_stopped : (olds news : List D) (why : Refusal) (k : ℕ)
      → IsStopped disk olds news why k → Pairs (λ _. IsBack disk) olds news
  backs_stopped olds news why k is = Pairs-map _ _ olds news (λ i d e returned. returned.back) is.returned

  -- ---- all writers and scanners are back

  pub any_cut : (h : List Update) (writers : List (WriterState D)) (scanners : List Known) → AreBack writers scanners
      → IsHistory h writers scanners → AnyCut disk h writers scanners
  any_cut h writers scanners back history plan places saw files size lived seen consistent left =
      cut_recovers disk plan h places saw files (omega (arith, back.some, size))
      (λ i p e.
      let x = lived i p e in
      (x.0, x.1, x.2, rw size x.4, x.5, x.6, (history.writers_saw i x.1 x.3).0))
      (λ k l e.
      let x = seen k l e in
      beginning-trans l x.1.seen h x.3 (history.scanners_saw x.0 x.1 x.2)) consistent left
