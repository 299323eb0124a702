use Rattle.std.proofs.Common.{◌∙◌, ap, drop}
use Rattle.snap_frame.proofs.Behind.{entry_of}
use Rattle.snap_frame.proofs.named.NamedValueListEntry.take_first.Goals as goal

pub returns-in_default-2-clause-none : goal.returns-in_default-2-clause-none
returns-in_default-2-clause-none c v tail may is =
    let none = rw c.in_default-2.is at c.in_ok-entry.ensures.none in
    none (entry_of v) tail (may.1, may.2) (c.advance.ensures ∙ ap (drop 1) is)
