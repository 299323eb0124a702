-- An update that was asked for leaves a writer that stores what was asked for.
use Rattle.std.proofs.Common.{sym, subst, ◌∙◌, ◌≡◌, ◌≢◌, ℕ, ◌+◌, List, Result, Ok, Err, OnOk, OnErr, inl}
use Rattle.std.proofs.{Common.inr, Common.ap, lemmas.Option.same_Some}
use Rattle.snap_disk.specs.declared.refusal.Refusal.{Refusal}
use Rattle.snap_history.specs.{Limits.IsNumber}
use Rattle.snap_segment.specs.Segment.{SegmentState}
use Rattle.snap_memory.specs.{Seat.own_of}
use Rattle.snap_writer.{specs.Update.Advances, specs.Update.Fails, specs.Update.IsSameSeat, proofs.Judgements.some_rule}
use Rattle.snap_writer.specs.{Writer.WriterState, Writer.number_of, Judge.IsJudged, Updated.IsUpdated}
use Rattle.snap_writer.specs.declared.judgement.Judgement.{TheVariants.Go, Judgement}
use Rattle.snap_service.specs.{Asked.IsAsOpened, Asked.StoresAsked}
use Rattle.snap_disk.specs.declared.disk.Disk as Disk

module _ {D : Type 0} (asked : ℕ → ℕ → List ℕ → Type 0) where
  -- a writer of the same segment with the same file
  same_file : (old new : WriterState D) → new.seat.plan ≡ old.seat.plan → own_of new.seat ≡ own_of old.seat
      → new.segment ≡ old.segment → StoresAsked asked old → StoresAsked asked new
  same_file old new plan own same is =
      record { stored = rw (plan, own, same) is.stored; begun = rw (own, same) is.begun }

  -- a writer as it was opened
  pub asked_found : (w : WriterState D) → IsAsOpened w → StoresAsked asked w
  asked_found w is = record { stored = inl is.found; begun = λ v begun. absurd (cc is.unfenced) }

  module _ (old new : WriterState D) (k : ℕ) (v : List ℕ) (asks : asked (own_of old.seat) k v)
      (is : StoresAsked asked old) where
    -- the file after a store, or after one that failed
    with_file : (s : SegmentState D) → IsSameSeat old.seat new.seat → new.segment ≡ s
        → StoresAsked asked (record { segment = s; seat = old.seat }) → StoresAsked asked new
    with_file s seat same = same_file (record { segment = s; seat = old.seat }) new seat.plan seat.low same

    moved : (told : Result ℕ Refusal) → old.segment.number ≡ number_of old → IsJudged old k v Go
        → IsSameSeat old.seat new.seat → OnOk told (Advances old new v) → OnErr told (Fails old new v)
        → StoresAsked asked new
    moved (Ok n) shown rule seat advances fails =
        let next : k ≡ old.segment.number + 1 = rule.0.1 ∙ ap (λ n. n + 1) (sym shown) in
        with_file _ seat advances.stored (record {
          stored = inr (subst (λ n. asked (own_of old.seat) n v) next asks);
          begun = λ u begun. absurd (cc rule.2);
        })
    moved (Err why) shown rule seat advances fails =
        let next : k ≡ old.segment.number + 1 = rule.0.1 ∙ ap (λ n. n + 1) (sym shown) in
        with_file _ seat fails.fenced (record {
          stored = is.stored;
          begun = λ u begun. subst (asked (own_of old.seat) (old.segment.number + 1)) (same_Some v u begun)
              (subst (λ n. asked (own_of old.seat) n v) next asks);
        })

    by_rule : (told : Result ℕ Refusal) → old.segment.number ≡ number_of old → (rule : Judgement)
        → IsJudged old k v rule → (rule ≢ Go → new ≡ old) → IsSameSeat old.seat new.seat
        → (IsJudged old k v Go → OnOk told (Advances old new v))
        → (IsJudged old k v Go → OnErr told (Fails old new v)) → StoresAsked asked new
    by_rule told shown Go judged same seat advances fails =
        moved told shown judged seat (advances judged) (fails judged)
    by_rule told shown rule judged same seat advances fails = rw (same (λ e. cc)) is

    pub asked_update : (disk : Disk.Ghosts D) (told : Result ℕ Refusal) → IsNumber (number_of old)
        → old.segment.number ≡ number_of old → IsUpdated disk old new k v told → StoresAsked asked new
    asked_update disk told low shown done =
        let rule = some_rule old k v low in
        by_rule told shown rule.0 rule.1 (done.unchanged rule.0 rule.1) done.same_seat done.advances done.fails
