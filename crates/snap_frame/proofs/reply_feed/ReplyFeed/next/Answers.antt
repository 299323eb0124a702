use Rattle.std.proofs.Common.{◌∙◌, List, ℕ, sym, ap, subst}
use Rattle.snap_frame.{specs.Messages.Says, specs.Stream.Held, specs.Stream.HasFrame, proofs.Exact.same_frame}
use Rattle.snap_frame.proofs.reply_feed.ReplyFeed.next.Goals as goal

pub returns-in-Ok-Some-read_reply-clause-bad : goal.returns-in-Ok-Some-read_reply-clause-bad
returns-in-Ok-Some-read_reply-clause-bad c x rest none has bad =
    let view = sym c.self.view_is in
    let found = rw c.in-Ok-Some.field-0-is at c.in-Ok-Some.ensures.next
    (sym (ap (λ (h : Held). h.failure) view) ∙ none) in
    let held = subst (λ (h : Held). HasFrame h.bytes x rest) view has in
    let same = same_frame c.self.inside.frames.bytes x c.in-Ok-Some.payload.items rest _ held found.0 in
    let is = rw c.in-Ok-Some-read_reply.field-0-is at c.in-Ok-Some-read_reply.ensures.reply in
    absurd (bad c.in-Ok-Some-read_reply.reply
    (subst (λ (z : List ℕ). Says z c.in-Ok-Some-read_reply.reply) (sym same.0) is))
