-- The machine after one more number represents the list with that number.
use Rattle.std.proofs.Common.{◌≡◌, ◌≢◌, ℕ, ◌+◌, ◌*◌, ◌<◌, ◌≤◌, ◌⊎◌, inl, inr, Bool, true, false, List, [], ◌∷◌}
use Rattle.std.proofs.Common.{◌++◌, length, slice_index, slice_set, refl, ap, sym, ◌∙◌, subst, arith}
use Rattle.std.specs.Prelude.{nat_lt, IsTrue, MatchBool, ◌↔◌, not, ◌==◌, ◌||◌, if◌then◌else◌}
use Rattle.std.proofs.lemmas.List.{length_push, get_or-set_same, get_or-set_other}
use Rattle.std.proofs.lemmas.List.{length-set}
use Rattle.std.proofs.lemmas.Bool.{cases_lt}
use Rattle.std.proofs.{Math.Logic.∥∥₁_elim, Math.Nat.mul-le-mul_left, Props.props, lemmas.Bool.Decides.nat_tests}
use Rattle.snap_scan.specs.Stands.{StandsFor, MayTell, Says, IsLooking, IsUndecided, IsRising, Same, IsChanged}
use Rattle.snap_scan.specs.declared.next.Next.TheVariants.{Look, Clean, Borrow}
use Rattle.snap_scan.proofs.Tell.{low_push, rising_push, undecided_push, undecided_before, same_push, changed_push}
use Rattle.snap_scan.specs.{Looks.IsNoFall, declared.machine.Machine.Machine, declared.next.Next.Next}
use Rattle.snap_scan.proofs.{Places.same_collect, Places.same_segment, Places.pushed, Verdict.said}
use Rattle.snap_scan.proofs.Verdict.{looks-lt}

-- the number that the latest look found for the segment whose turn it is
latest_is : (s : Machine) (L : List ℕ) (j m : ℕ) → StandsFor s L → s.next ≡ Look j → length L ≡ (m + 1) * s.segments + j
    → slice_index s.latest j ≡ slice_index L (m * s.segments + j)
latest_is s L j m st e place =
    let q : IsLooking s L j = said s L (Look j) st e in
    q.before m j (same_collect s.segments q.m j (m + 1) j q.within q.within (omega (arith, q.place)))
    (omega arith) q.within

-- a number that doesn't fall in one list doesn't fall in any list that the machine represents
same_fall : (s : Machine) (K L : List ℕ) (j k : ℕ) → StandsFor s K → StandsFor s L
    → s.next ≡ Look j → IsNoFall s.segments K j k → IsNoFall s.segments L j k
same_fall s K L j k sk sl e fall m place = grind (arith, nat_tests, latest_is)

-- bounds that the code needs
pub turn_fits : (s : Machine) (j k : ℕ) → s.next ≡ Look j → MayTell s j k
    → (j < 16) × (s.looks < 1000) × (j < length s.first)
turn_fits s j k e may = ∥∥₁_elim may (hlevel props) (λ r.
    let st : StandsFor s r.0 = r.1 in
    let q : IsLooking s r.0 j = said s r.0 (Look j) st e in
    let few = looks-lt s r.0 j q in
    let product = mul-le-mul_left s.segments st.most in
    (omega (arith, q.within, st.most), omega (arith, st.looks), omega (arith, q.within, st.most, st.firsts)))

-- the changed flag, off and on
flag_off : (a : Bool) (x y : ℕ) → (a || not (x == y)) ≡ false → (a ≡ false) × (x ≡ y)
flag_off a x y e = grind (arith, nat_tests)

flag_on : (a : Bool) (x y : ℕ) → (a || not (x == y)) ≡ true → (a ≡ true) ⊎ (x ≢ y)
flag_on a x y e = grind (arith, nat_tests)

-- The machine after a number that isn't a borrow:

abbrev flag_after : Machine → ℕ → ℕ → Bool
flag_after s j k = s.changed || not (slice_index s.latest j == k)

abbrev firsts_after : Machine → ℕ → ℕ → List ℕ
firsts_after s j k = if nat_lt s.looks s.segments then slice_set s.first j k else s.first

-- the machine with that number recorded
abbrev kept : Machine → ℕ → ℕ → Machine
kept s j k = record s {
  looks = s.looks + 1;
  changed = flag_after s j k;
  first = firsts_after s j k;
  latest = slice_set s.latest j k;
}

-- the number isn't two above that of the segment's first look
abbrev IsClose : Machine → ℕ → ℕ → Type 0
IsClose s j k = (s.looks < s.segments) ⊎ (k < slice_index s.first j + 2)

pub close : (s : Machine) (j k : ℕ) (b : Bool) → b ≡ false
    → (IsTrue b ↔ ((s.segments ≤ s.looks) × (slice_index s.first j + 2 ≤ k))) → IsClose s j k
close s j k b off h = grind (arith, cases_lt s.looks s.segments, cases_lt k (slice_index s.first j + 2))

module _ (s : Machine) (L : List ℕ) (j k : ℕ) (st : StandsFor s L) (e : s.next ≡ Look j) where
  q : IsLooking s L j
  q = said s L (Look j) st e

  undecided_then : (b : ℕ) → length (L ++ k ∷ []) ≡ b + 1 → IsUndecided s.segments (L ++ k ∷ []) b
  undecided_then = undecided_before s.segments L q.m j k q.within q.place q.undecided

  pub StandsFor-borrow : s.segments ≤ s.looks → slice_index s.first j + 2 ≤ k
      → StandsFor (record s { looks = s.looks + 1; next = Borrow j }) (L ++ k ∷ [])
  StandsFor-borrow late far = record {
    least = st.least;
    most = st.most;
    firsts = st.firsts;
    latests = st.latests;
    looks = omega (arith, st.looks, length_push L k);
    says = (
      record {
        last = (q.m, omega (arith, q.place, length_push L k));
        segment = q.within;
        moved = grind (arith, pushed, q.first j q.within, q.within, st.looks);
      },
      undecided_then,
    );
  }

  module _ (may : MayTell s j k) (near : IsClose s j k) where
    -- in the first collect the segment has no earlier look
    at_start : s.looks < s.segments → length L ≡ j
    at_start lt = grind (arith, q.place, st.looks)

    small : (j < length L) → k < slice_index L j + 2
    small l = grind (arith, at_start, q.first j q.within)

    first_after : (i : ℕ) → i < s.segments → i < length (L ++ k ∷ [])
        → slice_index (firsts_after s j k) i ≡ slice_index (L ++ k ∷ []) i
    first_after i hi l = grind (arith, nat_tests, pushed, at_start, q, get_or-set_other, get_or-set_same)

    -- the latest numbers of the current collect, with this one
    here_after : (i : ℕ) → i < j + 1
        → slice_index (slice_set s.latest j k) i ≡ slice_index (L ++ k ∷ []) (q.m * s.segments + i)
    here_after i l = grind (arith, nat_tests, pushed, q, get_or-set_other, get_or-set_same)

    undecided_after : ((c : ℕ) → (c + 2) * s.segments ≡ length L + 1 → Same s.segments (L ++ k ∷ []) c s.segments → ⊥)
        → IsUndecided s.segments (L ++ k ∷ []) (length (L ++ k ∷ []))
    undecided_after = undecided_push s.segments L q.m j k q.within q.place q.undecided small

    changed_after : (f : Bool) → flag_after s j k ≡ f → IsChanged f s.segments (L ++ k ∷ []) q.m (j + 1)
    changed_after false off =
        let is = flag_off s.changed (slice_index s.latest j) k off in
        same_push s.segments L q.m j k q.within q.place
        (subst (λ f. IsChanged f s.segments L q.m j) is.0 q.changed)
        (λ p f. sym (q.before p j f (omega arith) q.within) ∙ is.1)
    changed_after true on =
        changed_push s.segments L q.m j k q.within q.place (elim (flag_on s.changed (slice_index s.latest j) k on) [
          | inl is ↦ inl (subst (λ f. IsChanged f s.segments L q.m j) is q.changed)
          | inr other ↦ inr (λ p f g. other (q.before p j f (omega arith) q.within ∙ g))
        ])

    -- so the machine represents the longer list, if its next step is right
    stands : (changed : Bool) (next : Next)
        → Says (record (kept s j k) { changed = changed; next = next }) (L ++ k ∷ []) next
        → StandsFor (record (kept s j k) { changed = changed; next = next }) (L ++ k ∷ [])
    stands changed next says = grind (arith, nat_tests, length-set, length_push)

    rising_after : IsRising s.segments (L ++ k ∷ [])
    rising_after = rising_push s.segments L q.m j k q.within q.place q.rising
        (∥∥₁_elim may (hlevel props) (λ r. same_fall s r.0 L j k r.1 st e r.2))

    -- the next segment of this collect
    pub StandsFor-next_segment : j + 1 < s.segments
        → StandsFor (record (kept s j k) { next = Look (j + 1) }) (L ++ k ∷ [])
    StandsFor-next_segment more = stands (flag_after s j k) (Look (j + 1)) (record {
      m = q.m;
      place = omega (arith, q.place, length_push L k);
      within = more;
      first = first_after;
      here = here_after;
      before = λ p i f l hi. grind (arith, pushed, get_or-set_other {A = ℕ}, q.before p i f, q.place);
      changed = changed_after (flag_after s j k) refl;
      rising = rising_after;
      undecided = undecided_after (λ c f _. omega (
        arith,
        same_segment s.segments q.m (j + 1) (c + 2) 0 more st.least (omega (arith, q.place)),
      ));
    })

    -- the last segment of this collect: another collect follows if it differs from the one before, else the answer
    last : s.segments ≤ j + 1 → j + 1 ≡ s.segments
    last full = omega (arith, q.within)

    pub StandsFor-end_collect : s.segments ≤ j + 1 → (f : Bool) → flag_after s j k ≡ f
        → MatchBool f
        (StandsFor (record (kept s j k) { next = Look 0; changed = false }) (L ++ k ∷ []))
        (StandsFor (record (kept s j k) { next = Clean }) (L ++ k ∷ []))
    StandsFor-end_collect full true on = stands false (Look 0) (record {
      m = q.m + 1;
      place = omega (arith, q.place, length_push L k, last full);
      within = st.least;
      first = first_after;
      here = λ i l. absurd (omega arith);
      before = λ p i f _ hi. let same : p ≡ q.m = omega arith in
          rw same (here_after i (omega (arith, last full)));
      changed = (q.m, refl, λ i l. absurd (omega arith));
      rising = rising_after;
      undecided = undecided_after (λ c f g.
          let d = same_collect s.segments (q.m + 1) 0 (c + 2) 0 st.least st.least (omega (arith, q.place, last full)) in
          changed_after true on c (omega arith) (λ i l. g i (omega (arith, last full))));
    })
    StandsFor-end_collect full false off =
        let was = changed_after false off in
        let before = ap (λ x. x * s.segments) was.1 in
        let len : length (L ++ k ∷ []) ≡ (was.0 + 2) * s.segments =
        omega (arith, q.place, length_push L k, last full) in
        stands (flag_after s j k) Clean (
          record { rounds = (was.0, len); same = λ i l. grind (arith, was.2 i, last full) },
          low_push s.segments L q.m j k q.within q.place q.undecided.low small,
          undecided_then,
        )
