use Rattle.std.proofs.Common.{◌≡◌, ◌<◌, None, length, subst, sym, ◌∙◌, ap}
use Rattle.snap_frame.specs.Stream.{Held, IsPartial, HasLongLength}
use Rattle.snap_frame.proofs.Cuts.{partial_is_short}
use Rattle.snap_session.specs.Talk.{Talk, longest_frame}
use Rattle.snap_session.proofs.FeedAnswers.{asked_leaves, malformed_leaves, too_large_leaves}
use Rattle.snap_session.proofs.session.Session.hear.Goals as goal

pub invariant_of-self-in-Ok-Some : goal.invariant_of-self-in-Ok-Some
invariant_of-self-in-Ok-Some c =
    let going : c.self.inside.over ≡ None = ap (λ (z : Talk). z.over) c.self.view_is ∙ c.requires in
    let next = rw c.in-Ok-Some.field-0-is at c.in-Ok-Some.ensures.next in
    let leaves = asked_leaves _ _ _ (next (c.self.invariant.0 going)) (c.self.invariant.2 going) in
    (λ _. leaves.0, c.self.invariant.1, λ _. leaves.1)

pub invariant_of-self-in-Err-Malformed : goal.invariant_of-self-in-Err-Malformed
invariant_of-self-in-Err-Malformed c =
    let going : c.self.inside.over ≡ None = ap (λ (z : Talk). z.over) c.self.view_is ∙ c.requires in
    let leaves = malformed_leaves _ _ _ c.in-Err-Malformed.field-0-is
    (c.in-Err-Malformed.ensures.next (c.self.invariant.0 going)) (c.self.invariant.2 going) in
    (λ _. leaves.0, c.self.invariant.1, λ _. leaves.1)

pub returns-in-Ok-None : goal.returns-in-Ok-None
returns-in-Ok-None c =
    let going : c.self.inside.over ≡ None = ap (λ (z : Talk). z.over) c.self.view_is ∙ c.requires in
    let held = ap (λ (z : Talk). z.held) c.self.view_is in
    let next = rw c.in-Ok-None.field-0-is at c.in-Ok-None.ensures.next in
    let here = next (c.self.invariant.0 going) in
    let same = ap (λ (z : Held). z.bytes) here.1 in (
      subst IsPartial held here.0,
      subst (λ bytes. record {
        asked = c.self.inside.asked;
        held = bytes;
        owed = c.self.inside.owed.items;
        over = c.self.inside.over;
      } ≡ c.args.self.now) (sym same) c.self.view_is,
      subst (λ bytes. length bytes < longest_frame) held (partial_is_short _ (c.self.invariant.2 going) here.0),
    )

pub returns-in-Err-TooLarge : goal.returns-in-Err-TooLarge
returns-in-Err-TooLarge c =
    let going : c.self.inside.over ≡ None = ap (λ (z : Talk). z.over) c.self.view_is ∙ c.requires in
    let held = ap (λ (z : Talk). z.held) c.self.view_is in
    let leaves = too_large_leaves _ _ _ c.in-Err-TooLarge.field-0-is
    (c.in-Err-TooLarge.ensures.next (c.self.invariant.0 going)) in
    let asked = ap (λ (z : Talk). z.asked) c.self.view_is in
    let owed = ap (λ (z : Talk). z.owed) c.self.view_is in
    (subst HasLongLength held leaves.0, cc (held, asked, owed, leaves.1))
