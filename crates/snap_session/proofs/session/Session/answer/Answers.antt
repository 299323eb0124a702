use Rattle.std.proofs.Common.{rules, arith, refl, ap, length, sym, ◌∙◌}
use Rattle.snap_session.specs.Talk.{most_answers}
use Rattle.snap_session.proofs.{Steps.rests, Steps.by_more, Held.still_going, Continuation.goes_more}
use Rattle.snap_session.proofs.session.Session.answer.Goals as goal

pub returns-then-is_some-clause-goes : goal.returns-then-is_some-clause-goes
returns-then-is_some-clause-goes g c = (rests g.S.Service.gives _ _).0

pub returns-then-is_some-clause-few : goal.returns-then-is_some-clause-few
returns-then-is_some-clause-few g c =
    by_more g.S.Service.gives _ _ _ _ _ _ 0 most_answers (omega arith) (rests g.S.Service.gives _ _)

pub loop-init : goal.loop-init
loop-init g c = record {
  goes = rests g.S.Service.gives _ _;
  asked = λ going. c.requires.asked;
  free = search rules;
  bounded = λ few. few;
  held = λ going. omega arith;
  some = λ ran. absurd (ran refl);
}

pub returns-in_default-clause-goes : goal.returns-in_default-clause-goes
returns-in_default-clause-goes g c =
    (goes_more g.S.Service.gives _ _ _ _ _ _ _ 1 c.loop.invariant.goes c.answer_one.ensures.goes).0

pub returns-then-is_some-2-clause-few : goal.returns-then-is_some-2-clause-few
returns-then-is_some-2-clause-few g c =
    by_more g.S.Service.gives _ _ _ _ _ _ _ most_answers (omega arith) c.loop.invariant.goes

pub returns-in_default-clause-few : goal.returns-in_default-clause-few
returns-in_default-clause-few g c = by_more g.S.Service.gives _ _ _ _ _ _ _ most_answers (omega arith)
    (goes_more g.S.Service.gives _ _ _ _ _ _ _ 1 c.loop.invariant.goes c.answer_one.ensures.goes)

pub returns-clause-few : goal.returns-clause-few
returns-clause-few g c = by_more g.S.Service.gives _ _ _ _ _ _ _ most_answers (omega arith) c.loop.invariant.goes

pub loop-preserved : goal.loop-preserved
loop-preserved g c = record {
  goes = goes_more g.S.Service.gives _ _ _ _ _ _ _ 1 c.loop.invariant.goes c.answer_one.ensures.goes;
  asked = c.answer_one.ensures.asked;
  free = c.in-Turn.ensures.wants.0;
  bounded = λ few. omega (arith, c.answer_one.ensures.bounded, c.if-owed-ge-MAX_OWED.false, ap length c.owed.ensures);
  held = λ going. omega (
    arith,
    c.answer_one.ensures.held going,
    c.loop.invariant.held (sym c.over.ensures ∙ still_going _ _ c.is_some-in-loop.ensures c.if-is_some-2.false),
  );
  some = λ ran. c.in-Turn.ensures.wants.1;
}

pub answer_one-requires-clause-asked : goal.answer_one-requires-clause-asked
answer_one-requires-clause-asked g c =
    c.loop.invariant.asked (sym c.over.ensures ∙ still_going _ _ c.is_some-in-loop.ensures c.if-is_some-2.false)
