-- Sums of a function over the numbers below k.
use Rattle.std.proofs.Common.{◌≡◌, ℕ, zero, suc, ◌+◌, ◌*◌, ◌<◌, ◌≤◌, ◌⊎◌, inl, inr, arith}
use Rattle.std.proofs.lemmas.Bool.{cases_lt, cases_eq}

abbrev pub sum_below : (ℕ → ℕ) → ℕ → ℕ
sum_below f zero = 0
sum_below f (suc k) = f k + sum_below f k

pub sum_cap : (f g : ℕ → ℕ) (d k : ℕ) → ((i : ℕ) → i < k → f i ≤ g i + d) → sum_below f k ≤ sum_below g k + k * d
sum_cap f g d zero h = omega arith
sum_cap f g d (suc k) h = omega (arith, h k (omega arith), sum_cap f g d k (λ i l. h i (omega arith)))

-- if no summand falls, all stay the same or the sum rises
pub same_or_more : (f g : ℕ → ℕ) (k : ℕ) → ((i : ℕ) → i < k → f i ≤ g i)
    → ((i : ℕ) → i < k → f i ≡ g i) ⊎ (sum_below f k < sum_below g k)
same_or_more f g zero h = inl (λ i l. absurd (omega arith))
same_or_more f g (suc k) h =
    let here = h k (omega arith) in
    let rest = sum_cap f g 0 k (λ i l. omega (arith, h i (omega arith))) in
    elim (same_or_more f g k (λ i l. h i (omega arith))) [
      | inl all ↦ elim (cases_eq (f k) (g k)) [
        | inl e ↦ inl (λ i l. elim (cases_lt i k) [
          | inl lt ↦ all i lt
          | inr ge ↦ (let last : i ≡ k = omega arith in rw last e)
        ])
        | inr ne ↦ inr (omega arith)
      ]
      | inr more ↦ inr (omega arith)
    ]
