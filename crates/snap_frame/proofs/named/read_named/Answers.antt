use Rattle.std.proofs.Common.{◌≡◌, ◌∙◌, sym, subst, ap, drop, length}
use Rattle.snap_frame.specs.Messages.{named_bytes, IsNamedValue, Ascend}
use Rattle.snap_frame.proofs.Behind.{same_entries, named_apart}
use Rattle.snap_frame.proofs.named.read_named.Goals as goal

pub returns-then-not-ascend-clause-none : goal.returns-then-not-ascend-clause-none
returns-then-not-ascend-clause-none c kind vs are ascend is =
    let ours = c.in-Some.values.items in
    let read = rw c.in-Some.is at c.in_ok-values.ensures.some in
    let both = sym is ∙ read.1 in
    let count : length vs ≡ length ours = cc in
    let same = same_entries named_bytes IsNamedValue vs ours named_apart are.each read.0.each count
    (ap (drop 2) both) in
    let yes = c.ascend.ensures.1 (subst Ascend (same ∙ sym c.deref.ensures.value) ascend) in
    let wrong = rw c.if-not-ascend.true at yes in
    absurd cc
