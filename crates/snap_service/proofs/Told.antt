-- An update's result fits the number and the value that it leaves.
use Rattle.std.proofs.Common.{◌≡◌, ℕ, ◌+◌, List, Result, Ok, Err, OnOk, OnErr, refl, ap, subst, sym, ◌∙◌, arith}
use Rattle.snap_disk.specs.declared.refusal.Refusal.{Refusal}
use Rattle.snap_history.specs.Limits.{IsNumber, IsShort}
use Rattle.snap_segment.specs.Segment.{SegmentState}
use Rattle.snap_writer.{specs.Judge.IsJudged, specs.Judge.IsAnswer, proofs.Judgements.some_rule}
use Rattle.snap_writer.specs.declared.judgement.Judgement.TheVariants.{Fenced, Worn, Go, TooLong, Stored, Conflict}
use Rattle.snap_writer.specs.{Writer.WriterState, Writer.number_of, Update.Advances, Update.Fails, Updated.IsUpdated}
use Rattle.snap_writer.specs.Life.{IsShown}
use Rattle.snap_writer.specs.declared.judgement.Judgement.{TheVariants.OutOfStep, TheVariants.Exhausted, Judgement}
use Rattle.snap_service.specs.Settled.{IsTellable}
use Rattle.snap_disk.specs.declared.disk.Disk as Disk

module _ {D : Type 0} (old new : WriterState D) (k : ℕ) (v : List ℕ) (low : IsNumber (number_of old)) where
  at_rest : (told answer : Result ℕ Refusal) → told ≡ answer → new ≡ old
      → IsTellable old k v answer → IsTellable new k v told
  at_rest told answer e same h = rw (same, e) h

  moved : IsShown old × IsShown new → (told : Result ℕ Refusal) → IsJudged old k v Go → IsAnswer k Go told
      → OnOk told (Advances old new v) → OnErr told (Fails old new v) → IsTellable new k v told
  moved shown (Ok n) rule answer advances fails =
      let one : new.segment.number ≡ old.segment.number + 1 = ap (λ (x : SegmentState D). x.number) advances.stored in
      let two : new.segment.value ≡ v = ap (λ (x : SegmentState D). x.value) advances.stored in
      let at : k ≡ number_of new = omega arith in
      ((answer, at, sym two ∙ shown.1.1), subst IsNumber at rule.1)
  moved shown (Err why) rule answer advances fails =
      let one : new.segment.number ≡ old.segment.number = ap (λ (x : SegmentState D). x.number) fails.fenced in
      let at : number_of old ≡ number_of new = omega arith in
      ((refl, rw answer (omega arith, rule.1)), subst IsNumber at low)

  module _ (disk : Disk.Ghosts D) (told : Result ℕ Refusal) (updated : IsUpdated disk old new k v told)
      (shown : IsShown old × IsShown new) (short : IsShort v) where
    told_by : (rule : Judgement) → IsJudged old k v rule → IsTellable new k v told
    told_by TooLong is = absurd (omega arith)
    told_by Stored is =
        at_rest _ _ (updated.judged Stored is) (updated.unchanged Stored is (λ e. cc)) ((refl, is.1, is.2), low)
    told_by Conflict is =
        at_rest _ _ (updated.judged Conflict is) (updated.unchanged Conflict is (λ e. cc)) ((refl, (is.1, is.2)), low)
    told_by OutOfStep is =
        at_rest _ _ (updated.judged OutOfStep is) (updated.unchanged OutOfStep is (λ e. cc)) ((refl, (is.1, is.2)), low)
    told_by Exhausted is =
        let same = updated.unchanged Exhausted is (λ e. cc) in
        at_rest _ _ (updated.judged Exhausted is) same ((refl, (is.0.1, is.1)), low)
    told_by Fenced is =
        let same = updated.unchanged Fenced is (λ e. cc) in
        at_rest _ _ (updated.judged Fenced is) same ((refl, (is.0.1, is.1)), low)
    told_by Worn is =
        let same = updated.unchanged Worn is (λ e. cc) in
        at_rest _ _ (updated.judged Worn is) same ((refl, (is.0.1, is.1)), low)
    told_by Go is = moved shown told is (updated.judged Go is) (updated.advances is) (updated.fails is)

    pub tellable : IsTellable new k v told
    tellable =
        let is = some_rule old k v low in
        told_by is.0 is.1
