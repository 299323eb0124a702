use Rattle.std.proofs.Common.{rules, ◌≡◌, ◌∙◌, ℕ, ◌+◌, List, None, ap, sym, subst}
use Rattle.std.specs.Prelude.{OnOk}
use Rattle.snap_disk.specs.Device.{IsSettled, MayLeave}
use Rattle.snap_slot.specs.Layout.{IsFileOf}
use Rattle.snap_register.specs.declared.plan.UpdatePhase.{TheVariants.Shown}
use Rattle.snap_writer.specs.{Judge.IsAnswer, Writer.number_of, Writer.phase_of, declared.judgement.Judgement.Judgement}
use Rattle.snap_writer.specs.declared.judgement.Judgement.TheVariants.{Go}
use Rattle.snap_writer.proofs.{Judgements.one_rule, Untouched.untouched, Lives.went_on, Lives.lived_first}
use Rattle.snap_writer.proofs.writer.Writer.update.Goals as goal

pub returns-in_default : goal.returns-in_default
returns-in_default g c = record {
  updated = untouched g.D.Disk g.met.D.Disk.only_now c.args.self.now c.judge.ensures.kept
      c.args.number c.args.value.now c.judge.result c.judge.ensures.rule c.in_default.not-Go _
      c.answer.ensures.answer (c.answer.ensures.count _);
  shown = (c.judge.ensures.shown, c.judge.ensures.shown);
  low = c.judge.ensures.low;
}

pub returns-in-Go : goal.returns-in-Go
returns-in-Go g c =
    let w = c.args.self.now in
    let k = c.args.number in
    let v = c.args.value.now in
    let told = c.advance.result in
    let judged = c.in-Go.ensures.rule in
    let next : number_of w + 1 ≡ k = sym judged.0.1 in
    let unfenced : w.segment.begun ≡ None = search rules in
    let noted : w.seat.phase ≡ Shown = c.judge.ensures.phase ∙ ap phase_of unfenced in
    let did = c.advance.ensures in
    let first = went_on g.D.Disk w c.advance.new.self v c.judge.ensures.shown unfenced noted did.honest
    did.any_time told did.same_seat did.advances did.fails did.last did.either in
    record {
      updated = record {
        count = did.count;
        honest_then = did.honest;
        same_seat = did.same_seat;
        judged = λ r is. subst (λ (x : Judgement). IsAnswer k x told) (one_rule w k v Go r judged is)
            (subst (λ (n : ℕ). IsAnswer n Go told) next did.answer);
        unchanged = λ r is other. absurd (other (one_rule w k v r Go is judged));
        advances = λ go. did.advances;
        fails = λ go. did.fails;
        calls = λ go. did.calls;
        left = λ go. did.left;
        below = λ go. did.below;
        lived = lived_first g.D.Disk v w c.advance.new.self first;
        stored_first = λ go. first;
        any_time = λ honest begun. did.any_time honest;
        last = λ honest go. subst (λ (n : ℕ). OnOk told
            (IsSettled (g.D.Disk.device c.advance.new.self.segment.device)
            × ((b : List ℕ) → MayLeave (g.D.Disk.device c.advance.new.self.segment.device) b
            → IsFileOf w.segment.index w.segment.count n v b))) next (did.last honest);
        either = λ honest go. did.either honest;
      };
      shown = (c.judge.ensures.shown, did.shown);
      low = c.judge.ensures.low;
    }
