use Rattle.std.proofs.Common.{◌≡◌, ℕ, ◌+◌, [], ◌∷◌, ap, ◌∙◌}
use Rattle.snap_laws.proofs.Together.{two_seen, below_last, are_two, first_goes, second_goes}
use Rattle.snap_laws.proofs.crashes.open_two.Goals as goal
use Rattle.snap_laws.proofs.crashes.open_two.Goals.{Then-two-ne-LAST_NUMBER}

are : (g : _) (c : Then-two-ne-LAST_NUMBER g)
    → c.in-Some.writers.items ≡ c.result-item.result ∷ c.result-item-then-this-lt3.result ∷ []
are g c = two_seen _ _ _ _ c.as_mut_slice.ensures.value (c.in-Some.ensures.opened.one_each ∙ c.requires.count)
    c.result-item.is c.result-item-then-this-lt3.is

pub two_at_once-requires-clause-writers : goal.two_at_once-requires-clause-writers
two_at_once-requires-clause-writers g c = are_two g.D.Disk _ _ _ _ (are g c) c.in-Some.ensures

pub two_at_once-requires-clause-first : goal.two_at_once-requires-clause-first
two_at_once-requires-clause-first g c =
    let number = c.number-one.ensures in
    first_goes g.D.Disk _ _ _ _ (are g c) c.in-Some.ensures _ _ c.requires.value (ap (λ (k : ℕ). k + 1) number.number)
    (below_last c.number-one.result number.low c.if-one-ne-LAST_NUMBER.true)

pub two_at_once-requires-clause-second : goal.two_at_once-requires-clause-second
two_at_once-requires-clause-second g c =
    let number = c.number-two.ensures in
    second_goes g.D.Disk _ _ _ _ (are g c) c.in-Some.ensures _ _ c.requires.other
    (ap (λ (k : ℕ). k + 1) number.number)
    (below_last c.number-two.result number.low c.if-two-ne-LAST_NUMBER.true)
