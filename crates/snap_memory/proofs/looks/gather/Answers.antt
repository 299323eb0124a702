use Rattle.std.proofs.Common.{◌≡◌, ℕ, ◌^◌, ◌<◌, List, ◌∙◌, arith}
use Rattle.snap_scan.proofs.Sets.{at_some, at_below, at_named, some}
use Rattle.snap_scan.specs.{declared.next.Next.Next, declared.next.Next.TheVariants.Clean}
use Rattle.snap_scan.specs.{declared.next.Next.TheVariants.Borrow, Looks.IsBorrow, Sets.size, Course.IsNext}
use Rattle.snap_memory.proofs.Collects.{Gathers-none, Gathers-look, told_fits, takes_looks, clean_some}
use Rattle.snap_memory.proofs.Collects.{borrow_some, clean_scan, numbers_are, borrowed_scan}
use Rattle.snap_memory.proofs.looks.gather.Goals as goal

not_both : (v : Next) (j : ℕ) → v ≡ Clean → v ≡ Borrow j → ⊥
not_both v j clean borrow = cc

-- if the numbers are clean, no place of the set is borrowed from
no_borrow : (set : ℕ) (told : List ℕ) (v : Next) → IsNext set told v → v ≡ Clean → (p : ℕ)
    → IsBorrow (size set) told p → ⊥
no_borrow set told v decides clean p b = not_both v _ clean ((decides.borrow _).1 (p, at_some set p b.segment, b))

pub looks-init : goal.looks-init
looks-init g c =
    let a = g.L.Looker.known c.args.seat.now in
    let set = c.args.set.bits in
    let short : set < 2 ^ 16 = omega (arith, c.well_formed, c.of-scan.type_inv) in
    record {
      gathers = rw (c.of-scan.ensures.set, c.of-scan.ensures.told)
          (Gathers-none a set c.args.numbers.now c.requires.set.among short
          (some set short c.requires.set.some) c.told-numbers);
      set = c.of-scan.ensures.set;
    }

-- the segment whose turn it is
pub look-number-requires-clause-segment : goal.look-number-requires-clause-segment
look-number-requires-clause-segment g c =
    let gathers = c.looks.invariant.gathers in
    let turn = c.next.ensures.decides.look c.in-Look.segment c.in-Look.is in
    rw gathers.grows.plan (at_below c.looks.scan.set _ turn.0 c.in-Look.segment gathers.among turn.1)

pub bounds-numbers-segment : goal.bounds-numbers-segment
bounds-numbers-segment g c =
    let turn = c.next.ensures.decides.look c.in-Look.segment c.in-Look.is in
    (at_named c.looks.scan.set turn.0 c.in-Look.segment turn.1).0

pub offset_bounds-numbers-segment : goal.offset_bounds-numbers-segment
offset_bounds-numbers-segment g c =
    let turn = c.next.ensures.decides.look c.in-Look.segment c.in-Look.is in
    omega (arith, (at_named c.looks.scan.set turn.0 c.in-Look.segment turn.1).0)

pub told-requires-clause-rising : goal.told-requires-clause-rising
told-requires-clause-rising g c =
    let turn = c.next.ensures.decides.look c.in-Look.segment c.in-Look.is in
    told_fits _ _ _ _ _ _ _ _ c.looks.invariant.gathers turn.0 turn.1 turn.2 c.look-number.ensures.seen
    c.look-number.ensures.number

pub looks-preserved : goal.looks-preserved
looks-preserved g c =
    let turn = c.next.ensures.decides.look c.in-Look.segment c.in-Look.is in
    let look = c.look-number.ensures in
    record {
      gathers = rw (c.told.ensures.set, c.told.ensures.told)
          (Gathers-look _ _ _ _ _ _ _ _ c.looks.invariant.gathers turn.0 turn.1 turn.2 look.seen look.number
          (c.next.ensures.decides.bound c.in-Look.segment c.in-Look.is) look.looked look.look_records
          look.left look.below);
      set = c.told.ensures.set ∙ c.looks.invariant.set;
    }

pub returns-in-Clean-clause-below : goal.returns-in-Clean-clause-below
returns-in-Clean-clause-below g c =
    let clean = c.next.ensures.decides.clean.0 c.in-Clean.is in
    let gathers = c.looks.invariant.gathers in
    gathers.below (clean_some _ _ _ _ _ gathers clean)

pub returns-in-Clean-clause-scan : goal.returns-in-Clean-clause-scan
returns-in-Clean-clause-scan g c =
    rw (← c.looks.invariant.set)
    (clean_scan _ _ _ _ _ c.looks.invariant.gathers (c.next.ensures.decides.clean.0 c.in-Clean.is)
    (no_borrow _ _ _ c.next.ensures.decides c.in-Clean.is))

pub returns-in-Clean-clause-left : goal.returns-in-Clean-clause-left
returns-in-Clean-clause-left g c =
    let gathers = c.looks.invariant.gathers in
    rw (← c.looks.invariant.set)
    (takes_looks _ _ _ _ _ gathers (clean_some _ _ _ _ _ gathers (c.next.ensures.decides.clean.0 c.in-Clean.is)))

pub returns-in-Clean-clause-numbers : goal.returns-in-Clean-clause-numbers
returns-in-Clean-clause-numbers g c = λ _ i l named.
    numbers_are _ _ _ _ _ c.looks.invariant.gathers (c.next.ensures.decides.clean.0 c.in-Clean.is)
    (no_borrow _ _ _ c.next.ensures.decides c.in-Clean.is) i l (rw c.looks.invariant.set named)

pub returns-in-Borrow-clause-below : goal.returns-in-Borrow-clause-below
returns-in-Borrow-clause-below g c =
    let from = (c.next.ensures.decides.borrow c.in-Borrow.segment).0 c.in-Borrow.is in
    let gathers = c.looks.invariant.gathers in
    gathers.below (borrow_some _ _ _ _ _ gathers from.0 from.2)

pub returns-in-Borrow-clause-scan : goal.returns-in-Borrow-clause-scan
returns-in-Borrow-clause-scan g c =
    let from = (c.next.ensures.decides.borrow c.in-Borrow.segment).0 c.in-Borrow.is in
    borrowed_scan _ _ _ _ _ c.looks.invariant.gathers _ from.0 from.1 from.2

pub returns-in-Borrow-clause-left : goal.returns-in-Borrow-clause-left
returns-in-Borrow-clause-left g c =
    let from = (c.next.ensures.decides.borrow c.in-Borrow.segment).0 c.in-Borrow.is in
    let gathers = c.looks.invariant.gathers in
    rw (← c.looks.invariant.set) (takes_looks _ _ _ _ _ gathers (borrow_some _ _ _ _ _ gathers from.0 from.2))
