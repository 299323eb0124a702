-- The slots of an old file that holds a number.
use Rattle.std.proofs.Common.{◌≡◌, ◌⊎◌, inl, inr, ⊎_elim, ℕ, ◌-◌, ◌<◌, List, length, arith}
use Rattle.std.proofs.lemmas.Bool.{cases_eq}
use Rattle.snap_slot.specs.{declared.slot.Slot.TheVariants.Closed, declared.slot.Slot.TheVariants.Open, Layout.IsClosed}
use Rattle.snap_slot.{proofs.Readings.closed_at, proofs.Readings.open_at, specs.declared.slot.Slot.Slot}
use Rattle.snap_slot.specs.{Old.OldOpen, Old.OldHolds, OldFound.IsOldSlotOf}

-- x is open with number k, and y is closed, or open with the previous number
abbrev pub Leads : ℕ → Slot → Slot → Type 0
Leads k x y = (n : ℕ) × (x ≡ Open k n) × ((y ≡ Closed) ⊎ ((m : ℕ) × (y ≡ Open (k - 1) m) × (0 < k)))

leads : (b : List ℕ) (s t k : ℕ) (v : List ℕ) (x y : Slot) → (s ≡ t → ⊥) → IsOldSlotOf b s x → IsOldSlotOf b t y
    → OldOpen b s k v → IsClosed b t ⊎ ((u : List ℕ) × OldOpen b t (k - 1) u) → Leads k x y
leads b s t k v x y apart here there is beside = (
  length v,
  open_at 2 s b x k v here is,
  ⊎_elim (λ closed. inl (closed_at 2 t b y there closed))
      (λ u. inr (length u.0, open_at 2 t b y (k - 1) u.0 there u.1, omega (arith, apart, is.slot, u.1.slot))) beside,
)

pub held_answers : (b : List ℕ) (x y : Slot) → IsOldSlotOf b 0 x → IsOldSlotOf b 1 y
    → (k : ℕ) (v : List ℕ) → OldHolds b k v → Leads k x y ⊎ Leads k y x
held_answers b x y first second k v is = ⊎_elim (λ (zero : is.s ≡ 0). inl (leads b 0 1 k v x y
    (omega arith) first second (rw zero at is.is_open) (rw zero at is.other))) (λ nonzero.
    let one : is.s ≡ 1 = omega (arith, nonzero, is.is_open.slot) in
    inr (leads b 1 0 k v y x (omega arith) second first (rw one at is.is_open) (rw one at is.other))) (cases_eq is.s 0)
