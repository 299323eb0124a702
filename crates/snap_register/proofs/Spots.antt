-- The places of records' words in the table.
use Rattle.std.proofs.Common.{◌≡◌, ℕ, ◌+◌, ◌<◌, ◌++◌, List, length, arith, length-append}
use Rattle.atomic_table.specs.Table.{Me}
use Rattle.snap_register.specs.Rule.{width, cell}
use Rattle.snap_register.specs.Steps.{Owns, IsFree, LiesAt, IsNext, IsOld}
use Rattle.snap_register.specs.{declared.plan.SeatView.SeatView, Held.held, Setup.IsSeated}
use Rattle.snap_register.proofs.Places.{cell_inside}

-- the words of a record are consecutive
pub lies_more : (v : SeatView) (j q k r first place : ℕ) → LiesAt v j q first
    → r < length (held v j) → r ≡ q + k → place ≡ first + k → LiesAt v j r place
lies_more v j q k r first place lies inside more e =
    record { pinned = lies.pinned; inside = inside; is = omega arith }

-- the next word of a draft is at the next place
pub next_more : (v : SeatView) (i b to q first place : ℕ) (ws : List ℕ) → Owns v i → IsFree v b
    → to ≡ length v.pool.draft → length ws ≡ q → to + q < width v.plan → first ≡ cell v.plan i b to → place ≡ first + q
    → IsNext (record v { pool = record v.pool { draft = v.pool.draft ++ ws } }) place
next_more v i b to q first place ws owns free start long inside is more = grind (arith, length-append)

module _ {S : Type 0} {words left : ℕ} {pins : List ℕ} {m : Me S SeatView}
    (seated : IsSeated words pins left m) where
  pub lies_inside : {j q place : ℕ} → LiesAt m.0 j q place → place < words
  lies_inside {j} {q} {place} lies = grind (arith, cell_inside)

  pub next_inside : {place : ℕ} → IsNext m.0 place → place < words
  next_inside next = grind (arith, cell_inside)

  pub old_inside : {q place : ℕ} → IsOld m.0 q place → place < words
  old_inside old = grind (arith, cell_inside)
