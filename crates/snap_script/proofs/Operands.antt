-- The operand that a word encodes, and those that it doesn't.
use Rattle.std.proofs.Common.{◌≡◌, ◌≢◌, ℕ, ◌+◌, ◌*◌, ◌^◌, ◌<◌, ◌≤◌, Option, Some, None, Result, Ok, Err, List, [], ◌∷◌}
use Rattle.std.proofs.Common.{length, codes, refl, sym, ap, ◌∙◌, arith}
use Rattle.std.{specs.Prelude.MatchOption, specs.Prelude.IfOk, proofs.Math.Nat.pow-le-pow_right}
use Rattle.hex.specs.Hex.{decode_of, decode_sized, decode_pairs}
use Rattle.hex.proofs.HexLemmas.{decode_of-ok, decode_of-even}
use Rattle.snap_disk.specs.declared.fill.Fill.{Fill, TheVariants.Keep, TheVariants.All, TheVariants.At}
use Rattle.snap_order.specs.Hex.{IsHex}
use Rattle.snap_script.specs.Words.{Finds, parts_at, IsNumber, IsFill, IsFillAt}

-- a number of at most 18 digits has room for one more
pub digits_fit : (v d i : ℕ) → v < 10 ^ i → i < 19 → d < 10 → v * 10 + d < 2 ^ 64
digits_fit v d i h l e =
    let p : 10 ^ i ≤ 10 ^ 18 = pow-le-pow_right {n = 10} (omega arith) {i = i} {j = 18} (omega arith) in
    omega (arith, p)

-- two digits for each byte decode into room for that many bytes
pub sized : (s bytes : List ℕ) (n : ℕ) → length bytes ≡ n → decode_of s ≡ Ok bytes → decode_sized s n ≡ Ok bytes
sized s bytes n few h =
    let ok = decode_of-ok s bytes h in
    let len : length s ≡ 2 * length bytes = ok.2 in
    let pairs : decode_sized s n ≡ decode_pairs 0 s = grind arith in
    pairs ∙ sym (decode_of-even s (omega arith)) ∙ h

-- a word after `at:` is no other fill
module _ (word rest : List ℕ) (at : parts_at 58 word ≡ codes "at" ∷ parts_at 58 rest) where
  abbrev IsNoFillAt : Type 0
  IsNoFillAt = (o h bs : List ℕ) (p : ℕ) → parts_at 58 rest ≡ o ∷ h ∷ [] → IsNumber o p → IsHex h bs → ⊥

  abbrev IsFillAfter : Fill → Type 0
  IsFillAfter f = (o h : List ℕ) × (parts_at 58 rest ≡ o ∷ h ∷ []) × IsFillAt o h f

  found : (f : Fill) → IsFillAfter f → IsFill word f
  found Keep h = absurd h.3
  found (All b) h = absurd h.3
  found (At o bs) h = (h.0, h.1, at ∙ ap (λ parts. codes "at" ∷ parts) h.2, h.3)

  none : (codes "keep" ≢ word) → ((b : ℕ) → decode_of word ≢ Ok (b ∷ [])) → IsNoFillAt → (f : Fill) → IsFill word f → ⊥
  none keep byte other Keep h = keep (sym h)
  none keep byte other (All b) h = byte b h
  none keep byte other (At p bs) h = other h.0 h.1 bs.items p (let e = sym at ∙ h.2 in cc) h.3.0 h.3.1

  picked : (codes "keep" ≢ word) → ((b : ℕ) → decode_of word ≢ Ok (b ∷ [])) → (o : Option Fill)
      → MatchOption o IsNoFillAt IsFillAfter → Finds o (IsFill word)
  picked keep byte None h = none keep byte h
  picked keep byte (Some f) h = found f h

  pub fill_after : {E : Type 0} → (codes "keep" ≢ word) → ((b : ℕ) → decode_of word ≢ Ok (b ∷ []))
      → (r : Result (Option Fill) E) → IfOk r (λ o. MatchOption o IsNoFillAt IsFillAfter)
      → IfOk r (λ o. Finds o (IsFill word))
  fill_after keep byte (Ok o) h = picked keep byte o h
  fill_after keep byte (Err e) h = tt

-- where nothing was found
pub where_none : {A : Type 0} (P : A → Type 0) (o : Option A) → Finds o P
    → ((x : A) → o ≡ Some x → ⊥) → (x : A) → P x → ⊥
where_none P None h no_value = h
where_none P (Some x) h no_value = absurd (no_value x refl)

-- of two words the second is one
pub second_same : {a b x y : List ℕ} {words : List (List ℕ)} → words ≡ a ∷ b ∷ [] → words ≡ x ∷ y ∷ [] → b ≡ y
second_same is also = let same = sym is ∙ also in cc
