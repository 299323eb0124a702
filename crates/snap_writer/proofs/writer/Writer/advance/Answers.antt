use Rattle.std.proofs.Common.{rules, ◌≡◌, ◌∙◌, ℕ, ◌+◌, ap, sym, subst, Result, Ok, Err, List, Some, None}
use Rattle.std.specs.Result.{OnErr}
use Rattle.snap_history.specs.Limits.{IsNumber}
use Rattle.snap_slot.specs.{States.IsEither, Layout.IsFileOf}
use Rattle.snap_register.specs.Seat.{Known, Shows, MayPublish}
use Rattle.snap_register.specs.declared.plan.UpdatePhase.TheVariants.{Storing, Stored}
use Rattle.snap_writer.specs.Writer.{WriterState, IsPaired, number_of, value_of, phase_of}
use Rattle.snap_writer.specs.Update.{IsSameSeat, EndsWith}
use Rattle.snap_writer.proofs.Shown.{number_grown, number_shown, same_shown, ends_with, may_still}
use Rattle.snap_writer.proofs.Paired.{paired_grown, paired_shown}
use Rattle.snap_writer.proofs.writer.Writer.advance.Goals as goal
use Rattle.snap_writer.proofs.writer.Writer.advance.Goals.{After-publish}

-- a seat whose store has ended is as its scan left it, but for its phase
ended : (scanned storing stored : Known) → storing ≡ record scanned { phase = Storing }
    → stored ≡ record storing { phase = Stored } → stored ≡ record scanned { phase = Stored }
ended scanned storing stored begun end = end ∙ ap (λ (k : Known). record k { phase = Stored }) begun

shows : (g : _) (c : After-publish g)
    → Shows (record c.prepare-view.new.seat { phase = Stored }) c.publish.new.self c.args.value.now
shows g c = subst (λ (k : Known). Shows k c.publish.new.self c.args.value.now)
    (ended c.prepare-view.new.seat _ _ c.begin_store.ensures.begun c.end_store.ensures.stored) c.publish.ensures.shown

same : (g : _) (c : After-publish g) → IsSameSeat c.self.inside.seat c.publish.new.self
same g c = same_shown c.self.inside.seat c.prepare-view.new.seat c.publish.new.self Stored _
    c.prepare-view.ensures.seen (shows g c)

ends : (g : _) (c : After-publish g) → EndsWith c.self.inside.seat c.publish.new.self c.args.value.now
ends g c = ends_with c.self.inside.seat c.prepare-view.new.seat c.publish.new.self Stored _
    c.prepare-view.ensures.seen c.self.invariant.alone (shows g c)

pub invariant_of-self : goal.invariant_of-self
invariant_of-self g c =
    let s = c.self.inside.segment in
    let r = c.store.new.self in
    let number : r.number ≡ s.number = search rules in
    let value : r.value ≡ s.value = search rules in
    let failed : r.begun ≡ Some c.args.value.now = search rules in
    subst (λ (k : Known). IsPaired (record { segment = r; seat = k })) (sym c.begin_store.ensures.begun)
    (paired_grown s r c.self.inside.seat c.prepare-view.new.seat Storing c.self.invariant
    c.prepare-view.ensures.seen number value (sym (ap phase_of failed)))

pub publish-requires : goal.publish-requires
publish-requires g c =
    let k = c.prepare-view.new.seat in
    let is = ended c.prepare-view.new.seat _ _ c.begin_store.ensures.begun c.end_store.ensures.stored in
    record {
      size = c.requires.size;
      next = rw is (rw (number_grown c.self.inside.seat k c.prepare-view.ensures.seen c.self.invariant.alone)
          (subst (λ (w : WriterState _). IsNumber (number_of w + 1)) (sym c.self.view_is) c.requires.next));
      view = subst (λ (x : Known). MayPublish x c.prepare-view.result) (sym is)
          (may_still k Stored c.prepare-view.result c.prepare-view.ensures.view);
      stored = ap (λ (x : Known). x.phase) is;
    }

pub invariant_of-self-2 : goal.invariant_of-self-2
invariant_of-self-2 g c =
    let r = c.store.new.self in
    let number : r.number ≡ c.self.inside.segment.number + 1 = search rules in
    let value : r.value ≡ c.args.value.now = search rules in
    let unfenced : r.begun ≡ None = search rules in
    paired_shown c.self.inside.segment r c.self.inside.seat c.publish.new.self
    c.args.value.now c.self.invariant (same g c) (ends g c) number value
    (c.publish.ensures.shown.phase ∙ sym (ap phase_of unfenced))

pub returns-clause-answer : goal.returns-clause-answer
returns-clause-answer g c =
    let shown = number_shown c.self.inside.seat c.publish.new.self _ (same g c) (ends g c) in
    let number = c.publish.ensures.number in
    search rules

pub returns-clause-advances : goal.returns-clause-advances
returns-clause-advances g c =
    let shown : EndsWith c.args.self.now.seat c.publish.new.self c.args.value.now =
    subst (λ (w : WriterState _). EndsWith w.seat c.publish.new.self c.args.value.now) c.self.view_is
    (ends g c) in
    record { stored = search rules; shown = shown; phase = c.publish.ensures.shown.phase }

pub returns-clause-shown : goal.returns-clause-shown
returns-clause-shown g c =
    let is = invariant_of-self-2 g c in
    (is.number_is, is.value_is)

pub returns-in_err-store-clause-shown : goal.returns-in_err-store-clause-shown
returns-in_err-store-clause-shown g c =
    let is = invariant_of-self g c in
    (is.number_is, is.value_is)

-- a fact that holds in any case holds at an error
on_err : {T E P : Type 0} (r : Result T E) → P → OnErr r P
on_err (Ok x) p = search rules
on_err (Err e) p = p

pub returns-in_err-store-clause-either : goal.returns-in_err-store-clause-either
returns-in_err-store-clause-either g c = λ honest.
    on_err c.from_residual.result (λ b left.
    let s = c.self.inside.segment in
    let is = c.in_err-store.ensures.stored.either honest b left in
    subst (λ (x : WriterState _). IsEither x.segment.index x.segment.count (number_of x)
    (value_of x) c.args.value.now b) c.self.view_is
    (subst (λ (y : ℕ × List ℕ). IsEither s.index s.count y.0 y.1 c.args.value.now b)
    (λ t. (c.self.invariant.number_is t, c.self.invariant.value_is t)) is))

pub returns-clause-last : goal.returns-clause-last
returns-clause-last g c honest =
    let s = c.self.inside.segment in
    let is = c.in_ok-store.ensures.stored.last honest in (
      is.0,
      λ b left. subst (λ (x : WriterState _). IsFileOf x.segment.index x.segment.count (number_of x + 1)
          c.args.value.now b) c.self.view_is (subst (λ (k : ℕ). IsFileOf s.index s.count (k + 1) c.args.value.now b)
          c.self.invariant.number_is (is.1 b left)),
    )
