-- What a list of numbers decides, and that its decisions exclude each other.
use Rattle.std.proofs.Common.{◌≡◌, ℕ, zero, suc, ◌+◌, ◌-◌, ◌*◌, ◌<◌, ◌≤◌, inl, inr, List, length, take, Some}
use Rattle.std.proofs.Common.{slice_index, refl, ap, sym, ◌∙◌, subst, arith}
use Rattle.std.proofs.{Math.Nat.mul-le-mul_left, lemmas.List.length-take-le, lemmas.List.length-take}
use Rattle.std.proofs.lemmas.List.{get_or-take}
use Rattle.snap_scan.specs.Looks.{most_looks, IsTurn, IsClean, IsBorrow, IsDecided}
use Rattle.snap_scan.specs.Sets.{named, size, IsAt}
use Rattle.snap_scan.specs.Stands.{next_at, StandsFor, Says, IsLooking, IsUndecided, IsRising, IsFirst, AllLow, Same}
use Rattle.snap_scan.specs.declared.next.Next.TheVariants.{Look, Clean, Borrow}
use Rattle.snap_scan.proofs.Sums.{sum_below, sum_cap, same_or_more}
use Rattle.snap_scan.specs.{Course.Course, Course.IsNext, declared.machine.Machine.Machine, declared.next.Next.Next}
use Rattle.snap_scan.proofs.{Places.same_segment, Sets.at_some, Sets.at_is}

-- the last two collects of a clean list are equal
pub Same-from_clean : (n : ℕ) (L : List ℕ) (clean : IsClean n L) → Same n L clean.rounds.0 n
Same-from_clean n L clean i l = grind (arith, clean.same i l, clean.rounds.1)

not_clean : (n : ℕ) (L : List ℕ) → IsUndecided n L (length L) → IsClean n L → ⊥
not_clean n L u clean = grind (arith, Same-from_clean)

not_borrow : (n : ℕ) (L : List ℕ) (j : ℕ) → AllLow n L (length L) → IsBorrow n L j → ⊥
not_borrow n L j low b = grind (arith, low b.last.0 j b.segment, b.last.1, b.moved)

borrow_not_clean : (n : ℕ) (L : List ℕ) (j : ℕ) → 0 < n → IsBorrow n L j → IsFirst n L → IsClean n L → ⊥
borrow_not_clean n L j pos b before clean =
    let c = clean.rounds.0 in
    let m = b.last.0 in
    let e : length L ≡ (c + 2) * n = clean.rounds.1 in
    let f : length L ≡ m * n + j + 1 = b.last.1 in
    let within : n - 1 < n = omega arith in
    let small = (before (m * n + j) f).low c (n - 1) within (omega arith) in
    let same = Same-from_clean n L clean (n - 1) within in
    grind (arith, same_segment n m j (c + 1) (n - 1) b.segment within (omega arith), b.moved)

same_borrow : (n : ℕ) (L : List ℕ) (j k : ℕ) → IsBorrow n L j → IsBorrow n L k → j ≡ k
same_borrow n L j k a b = same_segment n a.last.0 j b.last.0 k a.segment b.segment (omega (arith, a.last.1, b.last.1))

-- the statement about a machine's list that its next step makes
pub said : (s : Machine) (L : List ℕ) (v : Next) → StandsFor s L → s.next ≡ v → Says s L v
said s L v st e = subst (Says s L) e st.says

-- The bound on looks: each collect that differs from the one before raises some number by one, and none rises by two.

abbrev total : ℕ → List ℕ → ℕ → ℕ
total n L m = sum_below (λ i. slice_index L (m * n + i)) n

total-lt : (n : ℕ) (L : List ℕ) (c : ℕ) → IsRising n L → IsUndecided n L (length L)
    → (c + 2) * n ≤ length L → total n L c < total n L (c + 1)
total-lt n L c up u h = grind (arith, same_or_more)

total-cap : (n : ℕ) (L : List ℕ) (m : ℕ) → IsUndecided n L (length L) → (m + 1) * n ≤ length L
    → total n L m ≤ total n L 0 + n * 1
total-cap n L m u h = sum_cap _ _ 1 n (λ i l. grind (arith, u.low m i l))

total-rises : (n : ℕ) (L : List ℕ) (m : ℕ) → IsRising n L → IsUndecided n L (length L)
    → (m + 1) * n ≤ length L → total n L 0 + m ≤ total n L m
total-rises n L zero up u h = omega arith
total-rises n L (suc m) up u h =
    let next : m + 1 ≡ suc m = omega arith in
    let b = total-lt n L m up u (omega arith) in
    omega (arith, total-rises n L m up u (omega arith), ap (total n L) next)

-- at most n collects differ from the one before
collects-le : (n : ℕ) (L : List ℕ) (m : ℕ) → IsRising n L → IsUndecided n L (length L) → m * n ≤ length L → m ≤ n + 1
collects-le n L zero up u h = omega arith
collects-le n L (suc m) up u h = omega (arith, total-rises n L m up u (omega arith), total-cap n L m u (omega arith))

pub looks-lt : (s : Machine) (L : List ℕ) (j : ℕ) → IsLooking s L j → length L < s.segments * (s.segments + 2)
looks-lt s L j k =
    let r = collects-le s.segments L k.m k.rising k.undecided (omega (arith, k.place)) in
    omega (arith, k.place, k.within, mul-le-mul_left s.segments r)

-- No earlier list decides anything:

none_of : (n : ℕ) (L : List ℕ) → IsUndecided n L (length L) → IsDecided n L → ⊥
none_of n L u (inl clean) = not_clean n L u clean
none_of n L u (inr borrow) = not_borrow n L borrow.0 u.low borrow.1

undecided_at : (n : ℕ) (L : List ℕ) (b k : ℕ) → IsUndecided n L b → k ≤ b → b ≤ length L → IsDecided n (take k L) → ⊥
undecided_at n L b k u kb bl =
    let len = length-take-le k L (omega arith) in
    none_of n (take k L) (record {
      low = λ m i hi lt. grind (arith, u.low m i hi, get_or-take {A = ℕ});
      no_clean = λ c h same. u.no_clean c (omega arith) (λ i l. grind (arith, same i l, get_or-take {A = ℕ}));
    })

first_of : (n : ℕ) (L : List ℕ) → IsFirst n L → (k : ℕ) → k < length L → IsDecided n (take k L) → ⊥
first_of n L first k l = undecided_at n L (length L - 1) k (first (length L - 1) (omega arith))
    (omega arith) (omega arith)

-- the machine's next place, as a segment of its set
pub at_look : (set p j : ℕ) (v : Next) → v ≡ Look p → next_at set v ≡ Look j → slice_index (named set) p ≡ j
at_look set p j v is e = let at = subst (λ n. next_at set n ≡ Look j) is e in cc

-- a place in a set's list, as its segment
pub listed : (set n p : ℕ) (list : List ℕ) → take n list ≡ named set → p < length (take n list)
    → slice_index list p ≡ slice_index (named set) p
listed set n p list is l = grind (arith, length-take, get_or-take {A = ℕ}, ap (λ x. slice_index x p) is)

-- the place of the next look has a segment
pub turn_at : (set : ℕ) (s : Machine) (L : List ℕ) (p j : ℕ) → s.segments ≡ size set
    → s.next ≡ Look p → slice_index (named set) p ≡ j → StandsFor s L → IsAt set p j
turn_at set s L p j count is at st = grind (arith, at_some, said)

-- the machine's next step is what its list decides
module _ (set : ℕ) (s : Machine) (L : List ℕ) (count : s.segments ≡ size set) (st : StandsFor s L) where
  at_place : (p j : ℕ) → p < s.segments → slice_index (named set) p ≡ j → IsAt set p j
  at_place p j l is = at_some set p (omega (arith, count)) ∙ ap (λ v. Some v) is

  clean_here : IsClean (size set) L → IsClean s.segments L
  clean_here = subst (λ n. IsClean n L) (sym count)

  borrow_here : (p : ℕ) → IsBorrow (size set) L p → IsBorrow s.segments L p
  borrow_here p = subst (λ n. IsBorrow n L p) (sym count)

  first_here : ((k : ℕ) → k < length L → IsDecided s.segments (take k L) → ⊥)
      → (k : ℕ) → k < length L → IsDecided (size set) (take k L) → ⊥
  first_here = subst (λ n. (k : ℕ) → k < length L → IsDecided n (take k L) → ⊥) count

  says_at : (v : Next) → Says s L v → IsNext set L (next_at set v)
  says_at (Look p) q = record {
    clean = (λ e. cc, λ is. absurd (not_clean s.segments L q.undecided (clean_here is)));
    borrow = λ j. (λ e. cc, λ b. absurd (not_borrow s.segments L b.0 q.undecided.low (borrow_here b.0 b.2)));
    look = λ j e. (p, at_place p j q.within cc, subst (λ n. IsTurn n L p) count (q.within, (q.m, q.place)));
    bound = λ j e. subst (λ n. length L < most_looks n) count (looks-lt s L p q);
    first = first_here (λ k l. undecided_at s.segments L (length L) k q.undecided (omega arith) (omega arith));
  }
  says_at Clean q = record {
    clean = (λ e. subst (λ n. IsClean n L) count q.0, λ is. refl);
    borrow = λ j. (λ e. cc, λ b. absurd (not_borrow s.segments L b.0 q.1 (borrow_here b.0 b.2)));
    look = λ j e. cc;
    bound = λ j e. cc;
    first = first_here (first_of s.segments L q.2);
  }
  says_at (Borrow p) q = record {
    clean = (λ e. cc, λ is. absurd (borrow_not_clean s.segments L p st.least q.0 q.1 (clean_here is)));
    borrow = λ j. (
      λ e. (p, at_place p j q.0.segment cc, rw count at q.0),
      λ b. ap (λ v. Borrow (slice_index (named set) v)) (same_borrow s.segments L p b.0 q.0 (borrow_here b.0 b.2))
          ∙ ap (λ v. Borrow v) (at_is set b.0 j b.1),
    );
    look = λ j e. cc;
    bound = λ j e. cc;
    first = first_here (first_of s.segments L q.1);
  }

  pub says_next : IsNext set L (next_at set s.next)
  says_next = says_at s.next st.says

-- the step that the machine returns is what its list decides
pub next_is : (set : ℕ) (s : Machine) (L : List ℕ) (v : Course) (next : Next) → s.segments ≡ size set
    → StandsFor s L → (record { set = set; told = L; next = next_at set s.next }) ≡ v
    → next ≡ v.next → IsNext v.set v.told next
next_is set s L v next count st view is = grind (arith, says_next)
