-- An old file can be read in one way only.
use Rattle.std.proofs.Common.{◌≡◌, ◌⊎◌, ⊎_elim, ℕ, ◌-◌, List, length, Option, Some, None, MatchOption, IfOk, IfErr}
use Rattle.std.{proofs.lemmas.Bool.cases_eq, proofs.Common.refl, proofs.Common.arith, specs.Option.ok_or}
use Rattle.snap_disk.specs.declared.refusal.Refusal.TheVariants.{Damaged}
use Rattle.snap_slot.specs.{OldFound.IsOldHeld, OldFound.IsOldFound, OldFound.IsNoOldOpening, Findings.IsOfBytes}
use Rattle.snap_slot.{proofs.Readings.open_same, proofs.Readings.not_open_and_closed, specs.Layout.IsClosed}
use Rattle.snap_slot.specs.{declared.old_recovery.OldFound.OldFound, Old.OldOpen, Old.OldHolds, Old.OldHead}

-- the two slots of a file can't both hold the newest number
not_both : (b : List ℕ) (s t k l : ℕ) (v w : List ℕ) → t ≡ 1 - s → s ≡ 1 - t → OldOpen b s k v → (IsClosed b t ⊎ ((u :
    List ℕ) × OldOpen b t (k - 1) u)) → OldOpen b t l w → (IsClosed b s ⊎ ((u : List ℕ) × OldOpen b s (l - 1) u)) → ⊥
not_both b s t k l v w other back is beside also beyond =
    ⊎_elim (not_open_and_closed also) (λ u. ⊎_elim (not_open_and_closed is) (λ x.
    let one : k - 1 ≡ l = (open_same u.1 also).0 in
    let two : l - 1 ≡ k = (open_same x.1 is).0 in
    absurd (omega (arith, one, two, is.slot, also.slot, other, back))) beyond) beside

-- a file holds one number and one value
pub old_holds_same : (b : List ℕ) (k l : ℕ) (v w : List ℕ) → OldHolds b k v → OldHolds b l w → (k ≡ l) × (v ≡ w)
old_holds_same b k l v w is also = ⊎_elim (λ (same : is.s ≡ also.s). open_same is.is_open (rw (← same) at also.is_open))
    (λ apart.
    let across : also.s ≡ 1 - is.s = omega (arith, apart, is.is_open.slot, also.is_open.slot) in
    let back : 1 - also.s ≡ is.s = omega (arith, apart, is.is_open.slot, also.is_open.slot) in
    absurd (not_both b is.s (1 - is.s) k l v w refl (omega (arith, across, back)) is.is_open is.other
    (rw across at also.is_open) (rw back at also.other))) (cases_eq is.s also.s)

-- what reading an old file returns if its header is right and its slots hold no value
pub old_damaged : (b : List ℕ) (i n : ℕ) (answer : Option OldFound) → length b ≡ 20480
    → OldHead b i n → MatchOption answer ((k : ℕ) (v : List ℕ) → OldHolds b k v → ⊥) (IsOldHeld b)
    → IfErr (ok_or answer Damaged) (λ why. IsNoOldOpening i n b why × IsOfBytes why)
old_damaged b i n None size head none = ((size, head, none), tt)
old_damaged b i n (Some found) size head is = tt

pub old_found : (b : List ℕ) (i n : ℕ) (answer : Option OldFound) → OldHead b i n → MatchOption answer
    ((k : ℕ) (v : List ℕ) → OldHolds b k v → ⊥) (IsOldHeld b) → IfOk (ok_or answer Damaged) (IsOldFound i n b)
old_found b i n None head none = tt
old_found b i n (Some found) head is = record { head = head; held = is }
