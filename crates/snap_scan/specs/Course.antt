-- What callers see of a scan, and how its next step follows.
use Rattle.std.specs.Prelude.{◌≡◌, ℕ, ◌<◌, ◌↔◌, List, length, take}
use Rattle.snap_scan.specs.Looks.{most_looks, IsTurn, IsClean, IsBorrow, IsDecided}
use Rattle.snap_scan.specs.declared.next.Next.TheVariants.{Look, Clean, Borrow}
use Rattle.snap_scan.specs.{Sets.size, Sets.IsAt, declared.next.Next.Next}

-- the set of segments, the list of all numbers found, in order, and the next step
pub record Course : Type 0 where
  pub set : ℕ
  pub told : List ℕ
  pub next : Next

-- it is the turn of segment j
abbrev pub HasTurn : ℕ → List ℕ → ℕ → Type 0
HasTurn set L j = (p : ℕ) × IsAt set p j × IsTurn (size set) L p

-- the numbers found allow a borrow from segment j
abbrev pub Borrows : ℕ → List ℕ → ℕ → Type 0
Borrows set L j = (p : ℕ) × IsAt set p j × IsBorrow (size set) L p

-- the step after the numbers L: an answer exactly if they decide one, else a look, at the segment
-- whose turn it is and only below the maximum; and no shorter list decided anything
pub record IsNext (set : ℕ) (L : List ℕ) (next : Next) : Type 0 where
  pub clean : (next ≡ Clean) ↔ IsClean (size set) L
  pub borrow : (j : ℕ) → (next ≡ Borrow j) ↔ Borrows set L j
  pub look : (j : ℕ) → next ≡ Look j → HasTurn set L j
  pub bound : (j : ℕ) → next ≡ Look j → length L < most_looks (size set)
  pub first : (k : ℕ) → k < length L → IsDecided (size set) (take k L) → ⊥
