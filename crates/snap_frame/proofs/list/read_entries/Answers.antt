use Rattle.std.proofs.Common.{◌∙◌, List, [], ℕ, sym, ap, arith, length, length-append, append-nil, ◌∷◌, ◌++◌, ◌==◌}
use Rattle.std.proofs.Common.{◌≡◌, flat_map, eqb-true}
use Rattle.std.proofs.lemmas.List.{nil_from_length}
use Rattle.snap_frame.proofs.Behind.{read_on, no_more, no_rest}
use Rattle.snap_frame.proofs.list.read_entries.Goals as goal

pub returns-in-None-clause-none : goal.returns-in-None-clause-none
returns-in-None-clause-none g c es count each is =
    let none = rw c.in-None.is at c.in_ok-entry.ensures.none in
    no_more g.E.ListEntry.bytes g.E.ListEntry.may_stand c.loop.entries.items es c.loop.rest
    c.requires.apart c.loop.invariant.read each (omega arith) none (sym c.loop.invariant.split ∙ is)

pub loop-preserved : goal.loop-preserved
loop-preserved g c =
    let one = rw c.in-Some.is at c.in_ok-entry.ensures.some in
    let more = read_on g.E.ListEntry.bytes g.E.ListEntry.may_stand c.loop.entries.items c.in-Some.entry
    c.args.rest c.loop.rest c.take_first.new.rest c.loop.invariant.read one.0
    c.loop.invariant.split one.1 in
    rw c.in_ok-push-in-Some.ensures.items (record {
      count = omega (arith, length-append c.loop.entries.items (c.in-Some.entry ∷ []));
      read = more.0;
      split = more.1;
    })

pub returns-then-not-is_empty-clause-none : goal.returns-then-not-is_empty-clause-none
returns-then-not-is_empty-clause-none g c es count each is =
    let none = no_rest g.E.ListEntry.bytes g.E.ListEntry.may_stand c.loop.entries.items es c.loop.rest
    c.requires.apart c.loop.invariant.read each (omega arith) (sym c.loop.invariant.split ∙ is) in
    let empty = c.is_empty.ensures ∙ ap (λ (xs : List ℕ). length xs == 0) none in
    cc

pub returns-clause-some : goal.returns-clause-some
returns-clause-some g c =
    let none : length c.loop.rest ≡ 0 =
    eqb-true (length c.loop.rest) 0 (sym c.is_empty.ensures ∙ c.if-not-is_empty.false) in
    let read = flat_map g.E.ListEntry.bytes c.loop.entries.items in
    let split = c.loop.invariant.split ∙ ap (λ xs. read ++ xs) (nil_from_length c.loop.rest none) ∙ append-nil read in
    (omega arith, c.loop.invariant.read, split)
