use Rattle.std.proofs.Common.{None, OnSome, inl, inr, ◌⊎◌, ap, sym, subst, length, ◌≤◌, ◌∙◌, take, [], ◌≡◌, ◌<◌, ◌+◌, ℕ}
use Rattle.std.proofs.Common.{List, Option, Some, true≢false, refl, arith}
use Rattle.std.{specs.Io.KnownBytes.Consumes, proofs.KnownBytes.Consumes-nil, proofs.KnownBytes.Consumes-kept}
use Rattle.snap_session.specs.Talk.{Talk, Stays, HoldsFrameAnd, most_owed}
use Rattle.snap_session.specs.Turns.{Turns, AllSaid, StandsAt, TakesRounds, FewRounds, WholeRounds, most_rounds}
use Rattle.snap_session.specs.declared.turns.End.TheVariants.{Closed, Truncated, TooLarge, NoMemory, ReadFailed}
use Rattle.snap_session.specs.declared.turns.End.TheVariants.{WriteFailed}
use Rattle.snap_session.specs.declared.turns.Polled.TheVariants.{Again, NeedsInput, NeedsRoom, NeedsOutcome, Over}
use Rattle.snap_session.proofs.Held.{holds_sent, holds_answered, holds_taken}
use Rattle.snap_session.proofs.Rounds.{scene, only_sends, reads_nothing, answers_some, reads_some, one_more, and_last}
use Rattle.snap_session.proofs.TurnRuns.{Stood, stood_sent, begins, then_round, then_takes, then_ends, few_left}
use Rattle.snap_session.proofs.TurnRuns.{none_owed, some_owed, blocked_apart, failed_apart, on_any, on_none, or_new}
use Rattle.snap_session.specs.declared.turns.Polled.{Polled}
use Rattle.snap_session.proofs.{Asked.asked_anyway, Steps.taken_asked, Steps.taken_owed}
use Rattle.snap_frame.specs.declared.{request.Request.Request, reply.Reply.Reply}
use Rattle.snap_session.proofs.turns.proceed.Goals as goal
use Rattle.snap_session.proofs.turns.proceed.Goals.{After-send_owed, After-answer, After-read}

-- the invariant still holds after a read that returned nothing
stood_reads : {S : Type 0} {gives : S → Request → Reply → S → Type 0} {hands_over one : Type 0} {more : ℕ} {s t : S}
    {old new : Talk} {r0 r1 r2 w0 w1 : Option (List ℕ)} → Stood gives hands_over one more s t old new r0 r1 w0 w1
    → Consumes r1 r2 [] → Stood gives hands_over one more s t old new r0 r2 w0 w1
stood_reads {gives = gives} stood read = record {
  turns = then_ends gives _ _ _ _ _ _ _ _ _ stood.turns read;
  bounded = stood.bounded;
  free = stood.free;
  under = stood.under;
  held = stood.held;
}

-- the clauses of a turn with this result
ends : {S : Type 0} {gives : S → Request → Reply → S → Type 0} {hands_over one : Type 0} {more : ℕ} {s t : S}
    {old new : Talk} {r0 r1 w0 w1 : Option (List ℕ)} → Stood gives hands_over one more s t old new r0 r1 w0 w1
    → (turn : Polled) → TakesRounds gives more turn (scene s old r0 w0) (scene t new r1 w1) → StandsAt turn new r1
    → record {
      goes : Turns Stays gives s t old r0 r1 w0 w1 new;
      stands : StandsAt turn new r1;
      bounded : length old.owed ≤ most_owed → length new.owed ≤ most_owed;
      free : (hands_over → ⊥) → old.asked ≡ None → new.asked ≡ None;
      outcome : (hands_over → ⊥) → old.asked ≡ None → turn ≡ NeedsOutcome → ⊥;
      under : old.asked ≡ None → OnSome new.asked one;
      held : HoldsFrameAnd more old → HoldsFrameAnd more new;
      rounds : TakesRounds gives more turn (scene s old r0 w0) (scene t new r1 w1);
    }
ends {new = new} {r1 = r1} stood turn rounds stands = record {
  goes = stood.turns;
  stands = stands;
  bounded = stood.bounded;
  free = stood.free;
  outcome = λ no at same. (rw same at stands).2 (stood.free no at);
  under = stood.under;
  held = stood.held;
  rounds = rounds;
}

-- `Stood` after the bytes that are owed are written.
sent_on : (g : _) (c : After-send_owed g) → Stood g.S.Service.gives g.S.Service.hands_over
    (g.S.Service.hands_over_under c.args.key) (length c.args.piece.now) c.args.service.now
    c.loop.service c.args.session.now c.send_owed.new.session (g.R.Read.remaining c.args.reader.now)
    (g.R.Read.remaining c.loop.reader) (g.W.Write.contents c.args.writer.now)
    (g.W.Write.contents c.send_owed.new.writer)
sent_on g c = stood_sent g.S.Service.gives _ _ _ _ _ _ _ _ _ _ _ _ _ c.loop.invariant.stood c.send_owed.ensures.sends

-- `Stood` after frames are answered: no request is handed over then, or one that may be.
answered_on : (g : _) (c : After-answer g) → (c.answer.new.self.asked ≡ None) ⊎ (c.send_owed.new.session.asked ≡ None
    → g.S.Service.hands_over × g.S.Service.hands_over_under c.args.key) → Stood g.S.Service.gives g.S.Service.hands_over
    (g.S.Service.hands_over_under c.args.key) (length c.args.piece.now) c.args.service.now
    c.answer.new.service c.args.session.now c.answer.new.self (g.R.Read.remaining c.args.reader.now)
    (g.R.Read.remaining c.loop.reader) (g.W.Write.contents c.args.writer.now)
    (g.W.Write.contents c.send_owed.new.writer)
answered_on g c asked = record {
  turns = then_round g.S.Service.gives _ _ _ _ _ _ _ _ _ _ _ _ c.loop.invariant.stood.turns
      c.send_owed.ensures.sends c.answer.ensures.goes;
  bounded = λ few. c.answer.ensures.bounded
      (few_left _ _ _ c.send_owed.ensures.sends.owed (c.loop.invariant.stood.bounded few));
  free = λ no at. elim asked [
    | inl none ↦ none
    | inr handed ↦ absurd (no (handed (c.send_owed.ensures.sends.asked ∙ c.loop.invariant.stood.free no at)).0)
  ];
  under = λ free. elim asked [
    | inl none ↦ on_none _ _ none
    | inr handed ↦ on_any _ _ (or_new _ _ (c.loop.invariant.stood.under free)
        (λ none. (handed (c.send_owed.ensures.sends.asked ∙ none)).1))
  ];
  held = λ small. holds_answered _ c.send_owed.new.session c.answer.new.self
      (sym c.over.ensures ∙ c.in-None.is) c.answer.ensures.held
      (holds_sent _ _ _ _ _ c.send_owed.ensures.sends (c.loop.invariant.stood.held small));
}

-- the rounds, if the last one ends after the write
few_sent : (g : _) (c : After-send_owed g) → FewRounds g.S.Service.gives (length c.args.piece.now)
    (scene c.args.service.now c.args.session.now (g.R.Read.remaining c.args.reader.now)
    (g.W.Write.contents c.args.writer.now))
    (scene c.loop.service c.send_owed.new.session (g.R.Read.remaining c.loop.reader)
    (g.W.Write.contents c.send_owed.new.writer))
few_sent g c = and_last g.S.Service.gives _ c.loop.counter _ _ _ (omega arith) c.loop.invariant.rounds
    (only_sends g.S.Service.gives _ _ _ _ _ _ _ c.send_owed.ensures.sends)

-- the rounds, if the last one ends after a read that returned nothing
few_read : (g : _) (c : After-answer g) (left : Option (List ℕ)) → Consumes (g.R.Read.remaining c.loop.reader) left []
    → FewRounds g.S.Service.gives (length c.args.piece.now)
    (scene c.args.service.now c.args.session.now (g.R.Read.remaining c.args.reader.now)
    (g.W.Write.contents c.args.writer.now)) (scene c.answer.new.service c.answer.new.self left
    (g.W.Write.contents c.send_owed.new.writer))
few_read g c left read = and_last g.S.Service.gives _ c.loop.counter _ _ _ (omega arith) c.loop.invariant.rounds
    (reads_nothing g.S.Service.gives _ _ _ _ _ _ _ _ _ _ c.send_owed.ensures.sends c.answer.ensures.few read)

-- a round with progress, in which frames were answered and nothing was read
goes_on : (g : _) (c : After-answer g) → (c.answer.new.self.asked ≡ None) ⊎ (c.send_owed.new.session.asked ≡ None
    → g.S.Service.hands_over × g.S.Service.hands_over_under c.args.key)
    → (c.answer.new.self.over ≡ None → c.answer.new.self.owed ≡ [] → ⊥) → record {
      stood : Stood g.S.Service.gives g.S.Service.hands_over
          (g.S.Service.hands_over_under c.args.key) (length c.args.piece.now) c.args.service.now
          c.answer.new.service c.args.session.now c.answer.new.self
          (g.R.Read.remaining c.args.reader.now) (g.R.Read.remaining c.loop.reader)
          (g.W.Write.contents c.args.writer.now) (g.W.Write.contents c.send_owed.new.writer);
      rounds : WholeRounds g.S.Service.gives (length c.args.piece.now) (c.loop.counter + 1)
          (scene c.args.service.now c.args.session.now (g.R.Read.remaining c.args.reader.now)
          (g.W.Write.contents c.args.writer.now))
          (scene c.answer.new.service c.answer.new.self (g.R.Read.remaining c.loop.reader)
          (g.W.Write.contents c.send_owed.new.writer));
    }
goes_on g c asked some = record {
  stood = answered_on g c asked;
  rounds = one_more g.S.Service.gives _ c.loop.counter _ _ _ c.loop.invariant.rounds
      (answers_some g.S.Service.gives _ _ _ _ _ _ _ _ _ c.send_owed.ensures.sends
      c.answer.ensures.few (c.send_owed.ensures.all.0 c.in-All.is) some);
}

-- nothing more is owed when a read is tried
all_said : (g : _) (c : After-read g) → AllSaid c.answer.new.self
all_said g c = (
  c.in-Bytes.ensures.wants.0,
  none_owed _ _ _ c.if-not-is_empty.false c.is_empty-in-loop.ensures c.owed-in-loop.ensures,
  c.in-Bytes.ensures.wants.1,
  c.in-Bytes.ensures.wants.2,
)

pub loop-init : goal.loop-init
loop-init g c = record {
  stood = record {
    turns = begins g.S.Service.gives _ _ _ _;
    free = λ no at. at;
    under = λ none. on_none _ _ none;
    bounded = λ few. few;
    held = λ small. small;
  };
  rounds = refl;
}

pub loop-preserved-in-Turn : goal.loop-preserved-in-Turn
loop-preserved-in-Turn g c = goes_on g (goal.at.loop-preserved-in-Turn g c).After-answer
    (inl c.in-Turn.ensures.wants.0) (c.in-Turn.ensures.wants.1)

pub loop-preserved-in-Outcome-2 : goal.loop-preserved-in-Outcome-2
loop-preserved-in-Outcome-2 g c = goes_on g (goal.at.loop-preserved-in-Outcome-2 g c).After-answer
    (inr c.in-Outcome-2.ensures.wants.0)
    (λ going. some_owed _ _ _ c.if-is_empty.false c.is_empty.ensures c.owed.ensures)

pub loop-preserved-then-not-is_empty : goal.loop-preserved-then-not-is_empty
loop-preserved-then-not-is_empty g c =
    goes_on g (goal.at.loop-preserved-then-not-is_empty g c).After-answer (inl c.in-Bytes.ensures.wants.1)
    (λ going. some_owed _ _ _ c.if-not-is_empty.true c.is_empty-in-loop.ensures c.owed-in-loop.ensures)

pub loop-preserved : goal.loop-preserved
loop-preserved g c =
    let answered = answered_on g (goal.at.loop-preserved g c).After-answer (inl c.in-Bytes.ensures.wants.1) in
    let said = all_said g (goal.at.loop-preserved g c).After-read in
    let piece = take c.in-Ok.n c.read.new.buf in
    let many : length piece ≡ c.in-Ok.n = sym c.in-Ok.ensures.bound.1 in
    let some : 0 < length piece = omega (arith, many, c.in-Ok.n-test.1) in
    let few : length piece ≤ length c.args.piece.now =
    omega (arith, many, c.in-Ok.ensures.bound.0, c.read.auto.buf, c.loop.auto.piece) in
    let free = taken_asked _ _ _ c.take_in.ensures ∙ said.2 in
    record {
      stood = record {
        turns = then_takes g.S.Service.gives _ _ _ _ _ _ _ _ _ _ _ answered.turns said.0
            c.in-Ok.ensures.bytes.0 c.take_in.ensures;
        free = λ no at. free;
        under = λ none. on_none _ _ free;
        bounded = λ few. rw (taken_owed c.answer.new.self _ _ c.take_in.ensures) (answered.bounded few);
        held = λ small. holds_taken _ _ _ _ c.in-Bytes.ensures.wants.3 few c.take_in.ensures;
      };
      rounds = one_more g.S.Service.gives _ c.loop.counter _ _ _ c.loop.invariant.rounds
          (reads_some g.S.Service.gives _ _ _ _ _ _ _ _ _ _ _ _ c.send_owed.ensures.sends
          c.answer.ensures.few (c.send_owed.ensures.all.0 c.in-All.is) c.in-Ok.ensures.bytes.0
          some few said.0 said.1 said.2 c.take_in.ensures);
    }

pub returns-in-Blocked : goal.returns-in-Blocked
returns-in-Blocked g c =
    let at = (goal.at.returns-in-Blocked g c).After-send_owed in
    ends (sent_on g at) NeedsRoom (few_sent g at)
    (λ empty. blocked_apart (sym c.in-Blocked.is ∙ c.send_owed.ensures.all.1 empty))

pub returns-in-Failed : goal.returns-in-Failed
returns-in-Failed g c =
    let at = (goal.at.returns-in-Failed g c).After-send_owed in
    ends (sent_on g at) (Over WriteFailed) (few_sent g at)
    (λ empty. failed_apart (sym c.in-Failed.is ∙ c.send_owed.ensures.all.1 empty))

pub returns-in-Some-TooLarge : goal.returns-in-Some-TooLarge
returns-in-Some-TooLarge g c =
    let at = (goal.at.returns-in-Some-TooLarge g c).After-send_owed in
    ends (sent_on g at) (Over TooLarge) (few_sent g at) (
      sym c.over.ensures ∙ c.in-Some-TooLarge.is ∙ ap Some c.in-Some-TooLarge.field-0-is,
      c.send_owed.ensures.all.0 c.in-All.is,
    )

pub returns-in-Some-NoMemory : goal.returns-in-Some-NoMemory
returns-in-Some-NoMemory g c =
    let at = (goal.at.returns-in-Some-NoMemory g c).After-send_owed in
    ends (sent_on g at) (Over NoMemory) (few_sent g at) (
      sym c.over.ensures ∙ c.in-Some-NoMemory.is ∙ ap Some c.in-Some-NoMemory.field-0-is,
      c.send_owed.ensures.all.0 c.in-All.is,
    )

pub returns-in-Outcome : goal.returns-in-Outcome
returns-in-Outcome g c =
    let at = (goal.at.returns-in-Outcome g c).After-answer in
    let handed = c.in-Outcome.ensures.wants.0 in
    ends (answered_on g at (inr handed)) NeedsOutcome (few_read g at _ (Consumes-nil _)) (
      c.in-Outcome.ensures.wants.1,
      none_owed _ _ _ c.if-is_empty.true c.is_empty.ensures c.owed.ensures,
      c.in-Outcome.ensures.wants.2,
    )

pub returns-in-Ok-eq0 : goal.returns-in-Ok-eq0
returns-in-Ok-eq0 g c =
    let at = (goal.at.returns-in-Ok-eq0 g c).After-answer in
    let read = rw c.in-Ok-eq0.is at c.read.ensures.bytes in
    let none : take c.in-Ok-eq0.field-0 c.read.new.buf ≡ [] =
    ap (λ k. take k c.read.new.buf) c.in-Ok-eq0.field-0-test in
    let nothing = subst (Consumes _ _) none read.0 in
    let said = all_said g (goal.at.returns-in-Ok-eq0 g c).After-read in
    ends (stood_reads (answered_on g at (inl said.2)) nothing) (Over Closed)
    (few_read g at _ nothing) (
      said.0,
      said.1,
      said.2,
      (c.is_between.ensures.0 c.if-is_between.true).1,
      read.1 c.in-Ok-eq0.field-0-test (rw (c.read.auto.buf ∙ c.loop.auto.piece) c.requires.room),
    )

pub returns-in-Ok-eq0-2 : goal.returns-in-Ok-eq0-2
returns-in-Ok-eq0-2 g c =
    let at = (goal.at.returns-in-Ok-eq0-2 g c).After-answer in
    let read = rw c.in-Ok-eq0-2.is at c.read.ensures.bytes in
    let zero = sym c.in-Ok-eq0-2.field-0-is ∙ c.in-Ok-eq0.field-0-test in
    let none : take c.in-Ok-eq0-2.field-0 c.read.new.buf ≡ [] = ap (λ k. take k c.read.new.buf) zero in
    let nothing = subst (Consumes _ _) none read.0 in
    let said = all_said g (goal.at.returns-in-Ok-eq0-2 g c).After-read in
    ends (stood_reads (answered_on g at (inl said.2)) nothing) (Over Truncated)
    (few_read g at _ nothing) (
      said,
      λ empty. true≢false (sym (c.is_between.ensures.1 (said.0, empty)) ∙ c.if-is_between.false),
      read.1 zero (rw (c.read.auto.buf ∙ c.loop.auto.piece) c.requires.room),
    )

pub returns-in-Err : goal.returns-in-Err
returns-in-Err g c =
    let at = (goal.at.returns-in-Err g c).After-answer in
    let nothing = Consumes-kept _ _ _ [] (Consumes-nil _) c.in-Err.ensures.bytes in
    let said = all_said g (goal.at.returns-in-Err g c).After-read in
    ends (stood_reads (answered_on g at (inl said.2)) nothing) NeedsInput
    (few_read g at _ nothing) said

pub returns-in-Err-2 : goal.returns-in-Err-2
returns-in-Err-2 g c =
    let at = (goal.at.returns-in-Err-2 g c).After-answer in
    let nothing = Consumes-kept _ _ _ [] (Consumes-nil _) c.in-Err-2.ensures.bytes in
    let said = all_said g (goal.at.returns-in-Err-2 g c).After-read in
    ends (stood_reads (answered_on g at (inl said.2)) nothing) (Over ReadFailed)
    (few_read g at _ nothing) said

pub returns : goal.returns
returns g c =
    let all : c.loop.counter ≡ most_rounds = omega arith in
    ends c.loop.invariant.stood Again (rw all at c.loop.invariant.rounds) tt

pub answer-requires-clause-asked : goal.answer-requires-clause-asked
answer-requires-clause-asked g c = asked_anyway g.S.Service.asked _ c.requires.asked
