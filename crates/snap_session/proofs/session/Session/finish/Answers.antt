use Rattle.std.proofs.Common.{sym, ◌∙◌, ap, subst, None, []}
use Rattle.snap_frame.specs.Messages.{says}
use Rattle.snap_session.specs.Talk.{Talk, Goes, Stays}
use Rattle.snap_session.proofs.Steps.{finishes, nobody, owes_held, asked_of}
use Rattle.snap_session.proofs.session.Session.finish.Goals as goal

pub returns-in-Some-clause-goes : goal.returns-in-Some-clause-goes
returns-in-Some-clause-goes g c =
    let asked = sym c.take.ensures.value ∙ c.in-Some.is in
    let kept = c.self.invariant.1 c.in-Some.request asked in
    finishes g.S.Service.gives _ _ c.args.self.now _ c.owe.new.self c.in-Some.request c.finish-reply.result
    c.owe.result c.requires (sym (ap asked_of c.self.view_is) ∙ asked)
    (rw c.take.ensures.after (ap (λ (z : Talk). record z { asked = None }) c.self.view_is))
    c.finish-reply.ensures.gives c.finish-reply.ensures.limits kept.0 kept.1 c.owe.ensures.owes

pub returns-in_default-clause-goes : goal.returns-in_default-clause-goes
returns-in_default-clause-goes g c =
    let free = sym (ap asked_of c.self.view_is) ∙ (sym c.take.ensures.value ∙ c.in_default.is) in
    rw c.take.ensures.after (subst (Goes Stays g.S.Service.gives c.args.service.now c.args.service.now c.args.self.now
    [] []) (sym (ap (λ (z : Talk). record z { asked = None }) c.self.view_is))
    (nobody g.S.Service.gives c.args.service.now c.args.self.now free))

pub returns-in-Some-clause-held : goal.returns-in-Some-clause-held
returns-in-Some-clause-held g c =
    owes_held _ (says c.finish-reply.result) c.owe.new.self c.owe.result c.owe.ensures.owes
    ∙ ap (λ (z : Talk). z.held) c.self.view_is
