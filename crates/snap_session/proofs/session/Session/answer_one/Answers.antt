use Rattle.std.proofs.Common.{[], refl, ap, subst, sym, inl, inr, ◌∙◌, arith}
use Rattle.snap_frame.specs.Messages.{says}
use Rattle.snap_session.specs.Talk.{refused_malformed, refused_too_large}
use Rattle.snap_session.proofs.Steps.{rests, by_more, gives_up, answers, refuses, found_first, hands, came_free}
use Rattle.snap_session.proofs.Steps.{owes_turn, owes_held, asked_of}
use Rattle.snap_session.{specs.Asked.AreAsked, proofs.Asked.asked_behind}
use Rattle.snap_session.proofs.session.Session.answer_one.Goals as goal

pub returns-in-Nothing-clause-goes : goal.returns-in-Nothing-clause-goes
returns-in-Nothing-clause-goes g c =
    rw c.in-Nothing.ensures.1 (by_more g.S.Service.gives c.args.service.now _ c.args.self.now [] [] c.args.self.now 0 1
    (omega arith) (rests g.S.Service.gives c.args.service.now c.args.self.now))

pub returns-in-Some-clause-goes : goal.returns-in-Some-clause-goes
returns-in-Some-clause-goes g c =
    let h = c.in-Asked.ensures in
    answers g.S.Service.gives _ _ c.args.self.now c.hear.new.self c.owe.new.self h.0
    (says c.in-Some.reply) c.owe.result c.requires.going
    (found_first c.args.self.now c.hear.new.self h.0 c.requires.free h.1 h.5) h.3 h.4 (
      h.1.fits,
      inl (c.in-Asked.request, c.in-Some.reply, h.2, c.in-Some.ensures.gives, (c.in-Some.ensures.limits, refl)),
    ) c.owe.ensures.owes

pub returns-in-None-clause-goes : goal.returns-in-None-clause-goes
returns-in-None-clause-goes g c =
    let h = c.in-Asked.ensures in
    rw c.in-None.ensures.later
    (by_more g.S.Service.gives _ _ _ _ _ _ 0 1 (omega arith)
    (hands g.S.Service.gives c.args.service.now c.args.self.now c.hear.new.self c.keep.new.self
    h.0 c.in-Asked.request c.requires.going c.requires.free h.1 h.2.1 h.3 h.4 c.keep.ensures))

pub returns-in-Malformed-clause-goes : goal.returns-in-Malformed-clause-goes
returns-in-Malformed-clause-goes g c =
    let h = c.in-Malformed.ensures in
    answers g.S.Service.gives _ _ c.args.self.now c.hear.new.self c.owe-in-Malformed.new.self h.0 _
    c.owe-in-Malformed.result c.requires.going
    (found_first c.args.self.now c.hear.new.self h.0 c.requires.free h.1 h.5) h.3 h.4
    (h.1.fits, inr (h.2, refl, refl)) c.owe-in-Malformed.ensures.owes

pub returns-in-TooLarge-clause-goes : goal.returns-in-TooLarge-clause-goes
returns-in-TooLarge-clause-goes g c =
    let h = c.in-TooLarge.ensures in
    by_more g.S.Service.gives _ _ _ _ _ _ 0 1 (omega arith)
    (refuses g.S.Service.gives _ c.args.self.now c.hear.new.self c.owe-in-TooLarge.new.self
    c.owe-in-TooLarge.result c.requires.going
    (rw (came_free c.args.self.now c.requires.free) h.0) h.1 c.owe-in-TooLarge.ensures.owes)

pub returns-in-NoMemory-clause-goes : goal.returns-in-NoMemory-clause-goes
returns-in-NoMemory-clause-goes g c =
    let h = c.in-NoMemory.ensures in
    by_more g.S.Service.gives _ _ _ _ _ _ 0 1 (omega arith)
    (gives_up g.S.Service.gives _ c.args.self.now _ c.hear.new.self c.requires.going h.0 h.1)

pub returns-in-Some-clause-wants : goal.returns-in-Some-clause-wants
returns-in-Some-clause-wants g c =
    owes_turn c.hear.new.self (says c.in-Some.reply) c.owe.new.self c.owe.result
    c.owe.ensures.owes (c.in-Asked.ensures.5 ∙ c.requires.free)

pub returns-in-Malformed-clause-wants : goal.returns-in-Malformed-clause-wants
returns-in-Malformed-clause-wants g c =
    owes_turn c.hear.new.self refused_malformed c.owe-in-Malformed.new.self
    c.owe-in-Malformed.result c.owe-in-Malformed.ensures.owes
    (c.in-Malformed.ensures.5 ∙ c.requires.free)

pub returns-in-TooLarge-clause-wants : goal.returns-in-TooLarge-clause-wants
returns-in-TooLarge-clause-wants g c =
    owes_turn c.hear.new.self refused_too_large c.owe-in-TooLarge.new.self
    c.owe-in-TooLarge.result c.owe-in-TooLarge.ensures.owes
    (ap asked_of c.in-TooLarge.ensures.1 ∙ c.requires.free)

-- what is held behind the request that was answered
pub answer-requires-clause-asked : goal.answer-requires-clause-asked
answer-requires-clause-asked g c =
    let h = c.in-Asked.ensures in c.requires.asked [] h.0 _ _ h.1.split h.2

pub returns-in-Some-clause-asked : goal.returns-in-Some-clause-asked
returns-in-Some-clause-asked g c going =
    let h = c.in-Asked.ensures in
    subst (AreAsked g.S.Service.asked) (sym (owes_held _ _ _ _ c.owe.ensures.owes))
    (asked_behind g.S.Service.asked _ h.0 _ h.1 c.requires.asked)

pub returns-in-None-clause-asked : goal.returns-in-None-clause-asked
returns-in-None-clause-asked g c going =
    let h = c.in-Asked.ensures in
    rw c.keep.ensures (asked_behind g.S.Service.asked _ h.0 _ h.1 c.requires.asked)

pub returns-in-Malformed-clause-asked : goal.returns-in-Malformed-clause-asked
returns-in-Malformed-clause-asked g c going =
    let h = c.in-Malformed.ensures in
    subst (AreAsked g.S.Service.asked) (sym (owes_held c.hear.new.self refused_malformed
    c.owe-in-Malformed.new.self c.owe-in-Malformed.result c.owe-in-Malformed.ensures.owes))
    (asked_behind g.S.Service.asked _ h.0 _ h.1 c.requires.asked)
