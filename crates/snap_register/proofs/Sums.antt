-- Sums over all views, and the pins that a pool has counted.
use Rattle.std.proofs.Common.{◌≡◌, ◌≢◌, ℕ, zero, suc, ◌+◌, ◌<◌, ◌≤◌, ◌==◌, cond, List, [], ◌∷◌, ◌++◌, set, get_or, refl}
use Rattle.std.proofs.Common.{ap, sym, arith, length, get_or-set_same, get_or-set_other}
use Rattle.std.proofs.lemmas.Bool.Decides.{nat_tests}
use Rattle.snap_register.specs.Rule.{total, on, far, beyond, other, pins_of}
use Rattle.snap_register.specs.declared.plan.{BufferPool.BufferPool, SeatView.SeatView}
use mathlib.Core.Option.{some, some-injective, some-ne-none}
use lib.ListN.{get_elem?}

-- the sum after one view has changed
pub total_set : (f : SeatView → ℕ) (vs : List SeatView) (k : ℕ) (v w : SeatView)
    → get_elem? vs k ≡ some v → total f (set vs k w) + f v ≡ total f vs + f w
total_set f [] k v w e = absurd (some-ne-none v (sym e))
total_set f (x ∷ xs) zero v w e = let s : f x ≡ f v = ap f (some-injective x v e) in omega arith
total_set f (x ∷ xs) (suc k) v w e = let h = total_set f xs k v w e in omega arith

pub total_same : (f : SeatView → ℕ) (vs : List SeatView) (k : ℕ) (v w : SeatView)
    → get_elem? vs k ≡ some v → f v ≡ f w → total f (set vs k w) ≡ total f vs
total_same f vs k v w e s = let h = total_set f vs k v w e in omega arith

pub total_push : (f : SeatView → ℕ) (vs : List SeatView) (w : SeatView) → total f (vs ++ w ∷ []) ≡ total f vs + f w
total_push f [] w = omega arith
total_push f (x ∷ xs) w = let h = total_push f xs w in omega arith

-- one view's summand is at most the sum
pub total_one : (f : SeatView → ℕ) (vs : List SeatView) (k : ℕ) (v : SeatView)
    → get_elem? vs k ≡ some v → f v ≤ total f vs
total_one f [] k v e = absurd (some-ne-none v (sym e))
total_one f (x ∷ xs) zero v e = let s : f x ≡ f v = ap f (some-injective x v e) in omega arith
total_one f (x ∷ xs) (suc k) v e = let h = total_one f xs k v e in omega arith

pub total_le : (f g : SeatView → ℕ) (vs : List SeatView)
    → ((k : ℕ) (v : SeatView) → get_elem? vs k ≡ some v → f v ≤ g v) → total f vs ≤ total g vs
total_le f g [] le = omega arith
total_le f g (x ∷ xs) le = omega (arith, le zero x refl, total_le f g xs (λ k v e. le (suc k) v e))

pub total_add : (f g h : SeatView → ℕ) (vs : List SeatView) → ((v : SeatView) → f v + g v ≡ h v)
    → total f vs + total g vs ≡ total h vs
total_add f g h [] e = refl
total_add f g h (x ∷ xs) e = let a = e x in let r = total_add f g h xs e in omega arith

pub on_here : (i b : ℕ) (v : SeatView) → get_or v.pins i 0 ≡ b + 1 → on i b v ≡ 1
on_here i b v e = grind (arith, nat_tests)

-- if the sum is 0, no view pins the buffer
pub none_on : (i b : ℕ) (vs : List SeatView) (k : ℕ) (v : SeatView) → total (on i b) vs ≡ 0
    → get_elem? vs k ≡ some v → get_or v.pins i 0 ≢ b + 1
none_on i b vs k v none at e = let a = on_here i b v e in let t = total_one (on i b) vs k v at in
    absurd (omega arith)

pub far_none : (t c x : ℕ) → x ≤ t → far t c x ≡ 0
far_none t c x le = grind (arith, nat_tests)

pub other_ne : (c k : ℕ) → other c k ≢ c
other_ne c k e = grind (arith, nat_tests)

-- the pins on the next other buffer no longer count among those further on
far_next : (c k x : ℕ) → cond (x == other c k + 1) 1 0 + far (other c (k + 1)) c x ≡ far (other c k) c x
far_next c k x = grind (arith, nat_tests)

pub beyond_next : (i c k : ℕ) (vs : List SeatView)
    → total (on i (other c k)) vs + total (beyond i (other c (k + 1)) c) vs ≡ total (beyond i (other c k) c) vs
beyond_next i c k vs = total_add (on i (other c k)) (beyond i (other c (k + 1)) c)
    (beyond i (other c k) c) vs (λ v. far_next c k (get_or v.pins i 0))

-- pins that the current word counts: on its own buffer, and on others
pub pins_at : (d : BufferPool) (x b : ℕ) → d.current ≡ b → pins_of d x b ≡ get_or d.counted b 0 + x
pins_at d x b e = grind (arith, nat_tests)

pub pins_else : (d : BufferPool) (x b : ℕ) → d.current ≢ b → pins_of d x b ≡ get_or d.counted b 0
pins_else d x b e = grind (arith, nat_tests)

-- the pins on each buffer, after the current word's were added and buffer f became current
pub pins_moved : (d : BufferPool) (x c f : ℕ) → d.current < length d.counted → get_or d.counted d.current 0 + x ≡ c
    → (b : ℕ)
    → get_or (set d.counted d.current c) b 0 + cond (f == b) 0 0 ≡ pins_of d x b
pins_moved d x c f inside sum b = grind (arith, nat_tests, get_or-set_same {A = ℕ}, get_or-set_other {A = ℕ})
