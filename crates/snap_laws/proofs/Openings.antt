-- The premises of the law of a cut if all writers are at rest and all are back, and what follows
-- for any number of starts.
use Rattle.std.proofs.Common.{ℕ, inl, List, [], length, map, refl, sym, subst, ◌∙◌, arith}
use Rattle.std.proofs.lemmas.{List.length-map, Option.same_Some, Option.slice_get_within}
use Rattle.snap_slot.proofs.Rest.{at_rest_leaves}
use Rattle.snap_history.specs.{History.Update, History.IsBeginning, Pairs.Pairs}
use Rattle.snap_history.proofs.{Beginnings.beginning-self, Beginnings.number-beginning, Pairs.element}
use Rattle.snap_memory.proofs.Collects.{grows_self}
use Rattle.snap_register.specs.{declared.plan.Plan.Plan, History.starts, Seat.Known}
use Rattle.snap_writer.{specs.Life.resting, specs.Life.Sees, specs.Writer.WriterState, proofs.Crashes.CountsNow}
use Rattle.snap_restart.specs.{Crash.AreOpened, Crash.StayKept, Crash.AnyCut, LifeCrash.Recovers, Closed.IsHistory}
use Rattle.snap_restart.proofs.{Crash.its_segment, Crash.its_device, Crash.opened_on, Crash.unmap, Placed.same_file}
use Rattle.snap_restart.specs.{Opened.IsBack, Opened.IsOpened, Restarts.First, Restarts.Interrupted}
use Rattle.snap_restart.proofs.{LifeCrash.each_seen, Removals.get_map}
use Rattle.snap_laws.specs.{Worked.IsLeft, Worked.IsRecoveredNow, Worked.KeepAStart, Worked.ComeThrough, Again.AreOfOne}
use Rattle.snap_disk.specs.declared.disk.Disk as Disk

abbrev pub seen_of : Known → List Update
seen_of b = b.seen

module _ {D : Type 0} (disk : Disk.Ghosts D) where
  pub sees_itself : (w : WriterState D) → Sees disk w w
  sees_itself w = record { segment_is = refl; grows = grows_self w.seat }

  -- what a crash leaves of the devices of writers at rest, whatever these did
  pub at_rest_recovers : (plan : Plan) (h : List Update) (writers : List (WriterState D)) (scanners : List Known)
      → AreOfOne disk plan writers → IsHistory h writers scanners → AnyCut disk h writers scanners
      → (files : List (List ℕ)) → Pairs (IsLeft disk) (map its_device writers) files
      → Recovers (length (map resting writers)) (starts plan) h (map resting writers) (map seen_of scanners) files
  at_rest_recovers plan h writers scanners are history cut files left =
      let start = starts plan in
      let below = each_seen (λ (x : List Update). IsBeginning x h) (map resting writers) (map seen_of scanners)
      (λ i p e. let w = unmap resting writers i p e in rw (← w.2) (history.writers_saw i w.0 w.1).0)
      (λ k x e. let s = unmap seen_of scanners k x e in rw (← s.2) (history.scanners_saw k s.0 s.1)) in
      cut plan (map resting writers) (map seen_of scanners) files (length-map writers resting)
      (λ i p e.
      let w = unmap resting writers i p e in
      (w.0, w.0, [], w.1, are i w.0 w.1, refl, inl (w.0, sees_itself w.0, beginning-self w.0.seat.seen, sym w.2)))
      (λ k x e.
      let s = unmap seen_of scanners k x e in
      (k, s.0, s.1, subst (λ (y : List Update). IsBeginning y s.0.seen) s.2 (beginning-self s.0.seen)))
      (λ j x e i p at.
      let w = unmap resting writers i p at in
      let rises = number-beginning start x h i (below j x e) in
      rw (← w.2) (omega (arith, rises, (history.writers_saw i w.0 w.1).1))) (record {
        size = length-map writers resting ∙ sym (length-map writers its_device) ∙ left.size;
        each = λ i p b ep eb.
            let w = unmap resting writers i p ep in
            rw (← w.2) (left.each i w.0.segment.device b (get_map its_device writers i w.0 w.1) eb);
      })

  pub now : (h : List Update) (writers : List (WriterState D)) (scanners : List Known)
      (olds : List D) → AreOpened disk olds writers → IsHistory h writers scanners
      → AnyCut disk h writers scanners → IsRecoveredNow disk (map its_device writers)
  now h writers scanners olds opened history cut = record {
    plan = opened.plan;
    history = h;
    writers = writers;
    scanners = scanners;
    theirs = refl;
    recovered = at_rest_recovers opened.plan h writers scanners opened.writers_are history cut;
  }

  -- devices as they were opened keep the memory that the writers start with
  pub keep_a_start : (olds : List D) (writers : List (WriterState D))
      → Pairs (IsOpened disk (length olds)) olds (map its_segment writers)
      → AreOpened disk olds writers → KeepAStart disk (map its_device writers)
  keep_a_start olds writers were opened hon =
      let devices = map its_device writers in
      let size = length-map writers its_device in
      let start = starts opened.plan in (
        start,
        First start devices (λ files left. record {
          begun_too = [];
          were_begun = λ j u e. absurd (cc e);
          once = λ i. omega arith;
          size = sym left.size;
          holds = λ i b eb.
              let w = element writers i (omega (arith, left.size, slice_get_within files i b eb, size)) in
              let there = get_map its_device writers i w.0 w.1 in
              let is = (opened_on disk olds writers were i w.0 w.1).2 in
              let now = opened.starts_are i w.0 w.1 in
              same_file refl (sym opened.one_each ∙ sym size) (omega (arith, now.0)) now.1
              (at_rest_leaves i (length olds) w.0.segment.number w.0.segment.value
              w.0.segment.spare_open (disk.device w.0.segment.device) (is.rests (hon i w.0.segment.device there)) b
              (left.each i w.0.segment.device b there eb));
        }),
      )

  pub come_through : CountsNow disk → (olds news : List D) → StayKept disk olds news
      → Pairs (λ _. IsBack disk) olds news → ComeThrough disk olds news
  come_through counts_now olds news stay back hon n start moments past =
      Interrupted start moments olds news news past stay (
        back.size,
        λ i d e f b ed ee ef left.
            let is = hon i e ee in
            let later = ((back.each i d e ed ee).any_time is).later in
            (is, counts_now e (disk.clock d) b is later (rw (same_Some f e (sym ef ∙ ee)) at left)),
      )
