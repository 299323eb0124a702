use Rattle.std.proofs.Common.{◌∙◌, sym, ap, subst, rules}
use Rattle.snap_frame.{specs.Stream.Held, specs.Stream.HasFrame, proofs.Exact.same_frame}
use Rattle.snap_frame.proofs.feed.Feed.next.Goals as goal

pub returns-in-Ok-Some-read_request-clause-malformed : goal.returns-in-Ok-Some-read_request-clause-malformed
returns-in-Ok-Some-read_request-clause-malformed c x rest none has bad =
    let view = sym c.self.view_is in
    let found = rw c.in-Ok-Some.field-0-is at c.in-Ok-Some.ensures.next
    (sym (ap (λ (h : Held). h.failure) view) ∙ none) in
    let held = subst (λ (h : Held). HasFrame h.bytes x rest) view has in
    let same = same_frame c.self.inside.frames.bytes x c.in-Ok-Some.payload.items rest _ held found.0 in
    let is = rw c.in-Ok-Some-read_request.field-0-is at c.in-Ok-Some-read_request.ensures.request in
    absurd (bad c.in-Ok-Some-read_request.request (is.0, same.0 ∙ is.1))

pub returns-in-Ok-None-read_request-clause-next : goal.returns-in-Ok-None-read_request-clause-next
returns-in-Ok-None-read_request-clause-next c = search rules
