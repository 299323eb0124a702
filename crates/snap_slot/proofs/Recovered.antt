-- The slots of a file that holds a number.
use Rattle.std.proofs.Common.{rules, ◌≡◌, ◌⊎◌, inl, inr, ⊎_elim, ℕ, ◌-◌, ◌<◌, List, length, arith, Option, Some, None}
use Rattle.std.proofs.{lemmas.Bool.cases_eq, Common.MatchOption}
use Rattle.snap_slot.specs.{Layout.Holds, Layout.slot_of, Layout.next_slot, Layout.spare_slot, declared.slot.Slot.Slot}
use Rattle.snap_slot.specs.declared.{slot.Slot.TheVariants.Closed, slot.Slot.TheVariants.Open, findings.Found.Found}
use Rattle.snap_slot.{proofs.Readings.closed_at, proofs.Readings.open_at, specs.Findings.IsHeld, specs.Slot.IsSlotOf}

-- The slot of the newest number is open, the next slot is closed, and the spare slot is closed or
-- open with the previous number.
pub record AreSlotsOf (k : ℕ) (v : List ℕ) (first second third : Slot) : Type 0 where
  pub here : first ≡ Open k (length v)
  pub next : second ≡ Closed
  pub spare : (third ≡ Closed) ⊎ ((m : ℕ) × (third ≡ Open (k - 1) m) × (0 < k))

pub slots_read : (b : List ℕ) (s : ℕ) (here next spare : Slot) → IsSlotOf b s here
    → IsSlotOf b (next_slot s) next → IsSlotOf b (spare_slot s) spare
    → (k : ℕ) (v : List ℕ) → slot_of k ≡ s → Holds b k v → AreSlotsOf k v here next spare
slots_read b s here next spare here_is next_is spare_is k v same is = record {
  here = open_at 3 s b here k v here_is (rw same at is.here);
  next = closed_at 3 (next_slot s) b next next_is (rw same at is.next);
  spare = ⊎_elim (λ closed. inl (closed_at 3 (spare_slot s) b spare spare_is closed)) (λ u. inr (
    length u.0,
    open_at 3 (spare_slot s) b spare (k - 1) u.0 spare_is u.1,
    omega (arith, u.1.slot),
  )) (rw same at is.spare);
}

-- The slots of a file are tried in turn; neither of the first two holds the newest number:
pub answers_in : (b : List ℕ) (result : Option Found) → ((k : ℕ) (v : List ℕ) → slot_of k ≡ 0 → Holds b k v → ⊥)
    → ((k : ℕ) (v : List ℕ) → slot_of k ≡ 1 → Holds b k v → ⊥) → MatchOption result ((k : ℕ) (v : List ℕ) → slot_of k
    ≡ 2 → Holds b k v → ⊥) (IsHeld b) → MatchOption result ((k : ℕ) (v : List ℕ) → Holds b k v → ⊥) (IsHeld b)
answers_in b None zero one two = search (rules, ⊎_elim, cases_eq)
answers_in b (Some found) zero one two = two
