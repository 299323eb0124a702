-- What one look adds to a scan, and why a scan that ends shows one moment.
use Rattle.std.proofs.Common.{◌≡◌, ℕ, ◌+◌, ◌-◌, ◌*◌, ◌<◌, ◌≤◌, inl, inr, List, [], ◌∷◌, ◌++◌, length, Some, slice_index}
use Rattle.std.proofs.Common.{mul-le-mul_right, slice_set, ap, sym, ◌∙◌, arith}
use Rattle.std.proofs.lemmas.List.{length_push, get_or_push, get_or_append_left}
use Rattle.std.specs.Prelude.{nat_lt, if◌then◌else◌}
use Rattle.std.proofs.{lemmas.Bool.cases_lt}
use Rattle.snap_history.proofs.Lists.{get-set_same, get-set_other}
use Rattle.snap_scan.specs.Looks.{IsClean, IsBorrow, IsTurn, IsNoFall}
use Rattle.std.proofs.lemmas.Bool.Decides.{nat_tests}
use Rattle.snap_scan.specs.Collects.{Numbers, Entries, IsRising, IsKept, Collects, IsMoment, IsThen}
use Rattle.snap_scan.proofs.{Places.same_segment, Places.pushed, Verdict.Same-from_clean}

-- a borrow is from the segment of the last look
pub same_turn : (n : ℕ) (L : List ℕ) (k i j : ℕ) → IsTurn n L j → IsBorrow n (L ++ k ∷ []) i → i ≡ j
same_turn n L k i j turn borrowed = same_segment n borrowed.last.0 i turn.1.0 j borrowed.segment turn.0
    (omega (arith, turn.1.1, length_push L k, borrowed.last.1))

-- less than a collect apart are looks at two segments
apart : (n m p i j : ℕ) → p * n + i < m * n + j → m * n + j < p * n + i + n → i ≡ j → ⊥
apart n m p i j before behind same = elim (cases_lt p m) [
  | inl lt ↦ omega (arith, mul-le-mul_right n lt)
  | inr ge ↦ omega (arith, mul-le-mul_right n ge)
]

module _ (A : Type 0) (n : ℕ) (number : Numbers) (entry : Entries A) (b e : ℕ) where
  -- before the first look
  pub Collects-none : (latest : List A) → Collects A n number entry b e [] latest
  Collects-none latest = record {
    moment = λ t. b;
    after = λ t l. absurd (omega arith);
    until = λ t l. absurd (omega arith);
    order = λ s t x l. absurd (omega arith);
    numbers = λ m i x l. absurd (omega arith);
    entries = λ m i x l y. absurd (omega arith);
  }

  module _ (L : List ℕ) (latest : List A) (c : Collects A n number entry b e L latest) where
    -- looks stay valid when the history grows
    pub Collects-same : (number2 : Numbers) (entry2 : Entries A) → ((t i : ℕ) → t ≤ e → number2 t i ≡ number t i)
        → ((t i : ℕ) → t ≤ e → entry2 t i ≡ entry t i) → Collects A n number2 entry2 b e L latest
    Collects-same number2 entry2 same kept = grind (arith, nat_tests)

    module _ (t j : ℕ) (end : e ≤ t) (turn : IsTurn n L j) where
      abbrev m : ℕ
      m = turn.1.0

      abbrev k : ℕ
      k = number t j

      within : j < n
      within = turn.0

      place : length L ≡ m * n + j
      place = turn.1.1

      old : (i : ℕ) → i < length L → slice_index (L ++ k ∷ []) i ≡ slice_index L i
      old i l = get_or_append_left L (k ∷ []) 0 i l

      len : length (L ++ k ∷ []) ≡ length L + 1
      len = length_push L k

      moment2 : ℕ → ℕ
      moment2 s = if nat_lt s (length L) then c.moment s else t

      was : (s : ℕ) → s < length L → moment2 s ≡ c.moment s
      unfolding moment2
      was s l = grind (arith, nat_tests)

      is : (s : ℕ) → length L ≤ s → moment2 s ≡ t
      unfolding moment2
      is s l = grind (arith, nat_tests)

      -- one look more
      pub Collects-push : b ≤ t → length latest ≡ n
          → Collects A n number entry b t (L ++ k ∷ []) (slice_set latest j (entry t j))
      Collects-push start size = record {
        moment = moment2;
        after = λ s l. grind (arith, was, is, c.after s, cases_lt s (length L));
        until = λ s l. grind (arith, was, is, c.until s, cases_lt s (length L));
        order = λ r s rs l.
            grind (arith, was, is, c.order r s rs, c.until r, cases_lt s (length L), cases_lt r (length L));
        numbers = λ p i hi l. grind (
          arith,
          len,
          old,
          was,
          is,
          c.numbers p i hi,
          get_or_push L k 0 (p * n + i),
          same_segment n p i m j hi within,
          cases_lt (p * n + i) (length L),
        );
        entries = λ p i hi l late. elim (cases_lt (p * n + i) (length L)) [
          | inl lt ↦ rw (was (p * n + i) lt) (get-set_other latest j i _
              (apart n m p i j (omega (arith, place)) (omega (arith, len, place)))
              ∙ c.entries p i hi lt (omega (arith, len)))
          | inr ge ↦ (
              let same : i ≡ j = same_segment n p i m j hi within (omega (arith, len, place)) in
              rw (is (p * n + i) ge, same) (get-set_same latest j _ (omega arith)))
        ];
      }

    module _ (rising : IsRising number) where
      pub no_fall : (t j : ℕ) → e ≤ t → j < n → IsNoFall n L j (number t j)
      no_fall t j end l m place = grind (arith, nat_tests)

      -- the first number found for a segment is at least the one it had when the scan began
      pub first_low : (j : ℕ) → j < n → j < length L → number b j ≤ slice_index L j
      first_low j within early =
          grind (arith, c.numbers 0 j within, rising j b (c.moment (0 * n + j)), c.after (0 * n + j))

      module _ (t j : ℕ) (end : e ≤ t) (turn : IsTurn n L j) (borrowed : IsBorrow n (L
          ++ number t j ∷ []) j) where
        last_is : slice_index (L ++ number t j ∷ []) (length (L ++ number t j ∷ []) - 1) ≡ number t j
        last_is = grind (arith, get_or_push, length_push)

        -- a segment that rose by two since the scan's first look has risen by two since the scan began
        pub rose : number b j + 2 ≤ number t j
        rose = grind (arith, pushed, last_is, borrowed.moved, first_low j turn.0, turn.1.1)

        -- so the moment of its view is within the scan
        pub borrow_moment : (p : ℕ) → p ≤ t → number p j + 1 ≡ number t j → (IsClean n (L ++ number t j ∷ []) → ⊥)
            → IsMoment n number b t (L ++ number t j ∷ []) p
        borrow_moment p pl before not_clean = record {
          after = grind (arith, rose, rising j p b);
          until = pl;
          tells = record {
            clean = λ cl. absurd (not_clean cl);
            borrow = λ i br. grind (arith, last_is, same_turn n L (number t j) i j turn br);
          };
        }

      -- two equal collects show the moment between them
      pub clean_moment : IsKept A number entry → 0 < n → IsClean n L → ((j : ℕ) → IsBorrow n L j → ⊥)
          → (p : ℕ) × IsMoment n number b e L p × IsThen A n entry p latest
      clean_moment kept pos clean not_borrow =
          let d = clean.rounds.0 in
          let long : length L ≡ (d + 2) * n = clean.rounds.1 in
          let mid = (d + 1) * n + 0 in
          let p = c.moment mid in
          let later : (i : ℕ) → i < n → p ≤ c.moment ((d + 1) * n + i) =
          λ i l. c.order mid ((d + 1) * n + i) (omega arith) (omega arith) in
          let equal : (i : ℕ) → i < n → number p i ≡ number (c.moment ((d + 1) * n + i)) i =
          λ i l. grind (
            arith,
            rising i (c.moment (d * n + i)) p,
            c.order (d * n + i) mid,
            rising i p (c.moment ((d + 1) * n + i)) (later i l),
            Same-from_clean n L clean i l,
            c.numbers d i l,
            c.numbers (d + 1) i l,
          ) in (
            p,
            record {
              after = c.after mid (omega arith);
              until = c.until mid (omega arith);
              tells = record {
                clean = λ _ i l. grind (arith, equal i l, c.numbers (d + 1) i l);
                borrow = λ j br. absurd (not_borrow j br);
              };
            },
            λ i l. c.entries (d + 1) i l (omega arith) (omega arith)
                ∙ ap Some (sym (kept i p (c.moment ((d + 1) * n + i)) (later i l) (equal i l))),
          )

-- a moment of a scan stays one when the history grows
pub IsMoment-same : (n : ℕ) (number number2 : Numbers) (b e : ℕ) (L : List ℕ) (p : ℕ) → ((t i : ℕ) → t ≤ e
    → number2 t i ≡ number t i) → IsMoment n number b e L p → IsMoment n number2 b e L p
IsMoment-same n number number2 b e L p same is = grind arith
