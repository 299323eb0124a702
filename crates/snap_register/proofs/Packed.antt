-- Registers that start with packed values.
use Rattle.std.proofs.Common.{◌≡◌, ℕ, ◌^◌, ◌≤◌, List, length, map, take, slice_get, Some, refl, ap, sym, ◌∙◌}
use Rattle.std.proofs.Common.{arith, mul-le-mul_right}
use Rattle.std.proofs.lemmas.{List.length-map, List.take_all, Option.get_or_from_slice_get, Option.slice_get-map}
use Rattle.std.specs.Prelude.{option_map}
use Rattle.snap_history.{specs.Pairs.Pairs, proofs.Pairs.element, proofs.Pairs.partner}
use Rattle.snap_register.specs.Setup.{start_of, plan_with, IsReady}
use Rattle.snap_register.specs.{declared.plan.Opening.Opening, declared.plan.Plan.Plan}
use Rattle.snap_register.specs.{History.no_start, History.start_at, Words.value_at, Words.IsBlock, Rule.segments}
use Rattle.snap_register.specs.{Rule.seats, Parts.IsOpening, Parts.IsPacked}

start_is : (scanners looks : ℕ) (os : List Opening) (i : ℕ) (o : Opening) → slice_get os i ≡ Some o
    → start_at (plan_with scanners looks 512 os) i ≡ start_of o
start_is scanners looks os i o e =
    get_or_from_slice_get (map start_of os) i (start_of o) no_start (slice_get-map start_of os i
    ∙ ap (option_map start_of) e)

pub ready_is : (scanners looks : ℕ) (vs : List (ℕ × List ℕ)) (os : List Opening) → scanners ≤ 16 → length os ≤ 16
    → looks ≤ 2 ^ 50 → Pairs (λ _. IsPacked) vs os → IsReady (plan_with scanners looks 512 os)
ready_is scanners looks vs os few_scanners few some p =
    let size : length vs ≡ length os = p.size in
    let q : Plan = plan_with scanners looks 512 os in
    let n : segments q ≡ length os = length-map os start_of in
    let most : seats q ≤ 32 = omega arith in
    record {
      each = λ i low.
          let x = element vs i (omega arith) in
          let o = partner (λ _. IsPacked) vs os i x.0 p x.1 in
          let words : List ℕ = o.0.words.items in
          let number = ap (λ (z : ℕ × List ℕ). z.0) o.2.block.is ∙ sym o.2.number_is in
          let own : IsBlock words 0 o.0.number (value_at words 0) =
          record { whole = o.2.block.whole; is = λ t. (number t, value_at words 0) } in
          rw (start_is scanners looks os i o.0 o.1) ((o.2.wide, own), omega (arith, o.2.low, o.2.number_is));
      block_words_is = refl;
      few = omega arith;
      looks = omega (arith, mul-le-mul_right looks most);
    }

pub opening_is : (scanners looks : ℕ) (vs : List (ℕ × List ℕ)) (os : List Opening)
    → Pairs (λ _. IsPacked) vs os → IsOpening (plan_with scanners looks 512 os) looks vs
opening_is scanners looks vs os p = record {
  segments_are = length-map os start_of ∙ sym p.size;
  looks_are = refl;
  each = λ i x e. let o = partner (λ _. IsPacked) vs os i x p e in
      rw (start_is scanners looks os i o.0 o.1) (λ t. (o.2.number_is t, ap (λ (z : ℕ × List ℕ). z.1) o.2.block.is t));
}

-- after all were packed
pub packed_all : {A : Type 0} (f : A → ℕ × List ℕ) (k : ℕ) (xs : List A) (os : List Opening) → length xs ≤ k
    → Pairs (λ _. IsPacked) (map f (take k xs)) os → Pairs (λ _. IsPacked) (map f xs) os
packed_all f k xs os all p = rw (take_all k xs all) at p

pub packed_length : {A : Type 0} (f : A → ℕ × List ℕ) (xs : List A) (os : List Opening)
    → Pairs (λ _. IsPacked) (map f xs) os → length xs ≡ length os
packed_length f xs os p = sym (length-map xs f) ∙ p.size
