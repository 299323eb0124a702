-- The answer of a scan is the memory of one moment.
use Rattle.std.proofs.Common.{◌≡◌, ℕ, inl, inr, ◌+◌, ◌-◌, ◌^◌, ◌<◌, ◌≤◌, List, [], length, map, All, Some, slice_get}
use Rattle.std.proofs.Common.{get_or, ap, sym, ◌∙◌, arith, Result, Ok, Err, OnOk}
use Rattle.std.proofs.lemmas.{Option.same_Some, Option.slice_get-get_or, Option.slice_get-map, List.length-map}
use Rattle.std.{proofs.lemmas.Nat.pow_below, proofs.lemmas.Bool.cases_lt, specs.Option.option_map}
use Rattle.snap_history.specs.History.{Update, Start, IsBeginning, number_after, value_after}
use Rattle.snap_history.{proofs.Beginnings.number-beginning, specs.Limits.IsShort, proofs.Moments.value_same}
use Rattle.snap_register.specs.declared.view.View.TheVariants.{Collected, Borrowed}
use Rattle.snap_register.specs.Seat.{Known, looked, own_of, number_in, value_in, Grows, IsValue, IsView, MayPublish}
use Rattle.snap_register.specs.{declared.plan.Plan.Plan, declared.view.View.View, History.starts, Rule.segments}
use Rattle.snap_scan.specs.Sets.{Names, named, size}
use Rattle.snap_scan.proofs.Sets.{at_named, at_some, at_below, all_at, all_size}
use Rattle.snap_scan.specs.{Values.pair_of, declared.segment_value.SegmentValue.SegmentValue}
use Rattle.snap_memory.specs.Scans.{BeginsFresh, IsCleanScan, IsBorrowedScan, IsScan, IsSnapshot, IsPart, HasPart}
use Rattle.snap_memory.specs.{Scans.AreLooked, Scans.IsSetOf, Scans.all_of, ScanCaches.WasSeen}
use Rattle.snap_memory.specs.{declared.scan_cache.ScanSource.ScanSource}
use Rattle.snap_memory.{specs.ScanCaches.number_of, specs.ScanCaches.AreEntries, proofs.Collects.beginning-take}

-- two beginnings of one list in which a segment has the same number have the same value of it
ordered : (start : Start) (h p q : List Update) (i : ℕ) → IsBeginning p h → IsBeginning q h → length p ≤ length q
    → number_after start p i ≡ number_after start q i → value_after start p i ≡ value_after start q i
ordered start h p q i bp bq l e =
    let is_p = beginning-take p h bp in
    let is_q = beginning-take q h bq in
    ap (λ x. value_after start x i) (sym is_p) ∙ value_same start h i (length p) (length q) l
    (ap (λ x. number_after start x i) is_p ∙ e ∙ ap (λ x. number_after start x i) (sym is_q))
    ∙ ap (λ x. value_after start x i) is_q

pub same_value : (start : Start) (h p q : List Update) (i : ℕ) → IsBeginning p h → IsBeginning q h
    → number_after start p i ≡ number_after start q i → value_after start p i ≡ value_after start q i
same_value start h p q i bp bq e =
    elim (cases_lt (length p) (length q)) [
      | inl lt ↦ ordered start h p q i bp bq (omega arith) e
      | inr ge ↦ sym (ordered start h q p i bq bp ge (sym e))
    ]

-- the value that the last look found is that of each beginning in which the segment has the number found
pub value_told : (b : Known) (i k : ℕ) (value : List ℕ) (part : List Update) → IsValue b i value → looked b i ≡ Some k
    → IsBeginning part b.seen → k ≡ number_in b part i → value ≡ value_in b part i
value_told b i k value part v told within is =
    let e : number_in b v.part i ≡ k = same_Some _ k (sym v.number ∙ told) in
    v.value_is ∙ same_value (starts b.plan) b.seen v.part part i v.beginning within (e ∙ is)

-- if a number and a value were seen together, the value is that of each beginning in which the segment has this number
pub seen_value : (b : Known) (i : ℕ) (x : ℕ × List ℕ) (part : List Update) → WasSeen b i x
    → IsBeginning part b.seen → x.0 ≡ number_in b part i → x.1 ≡ value_in b part i
seen_value b i x part was within is =
    was.value_is ∙ same_value (starts b.plan) b.seen was.part part i was.within within (sym was.number_is ∙ is)

-- the entry of a named segment in a view, which was seen
module _ (b : Known) (j set : ℕ) (xs : List (ℕ × List ℕ)) (i : ℕ) (v : IsView b j set xs)
    (l : i < segments b.plan) (named : Names set i) where
  view_entry : get_or xs i (0, []) ≡ (number_in b v.part i, value_in b v.part i)
  view_entry = grind (arith, same_Some, slice_get-get_or)

  pub view_seen : WasSeen b i (get_or xs i (0, []))
  view_seen = grind (arith, view_entry)

module _ (set : ℕ) (a b : Known) where
  pub part_clean : (memory : List (ℕ × List ℕ)) → IsCleanScan set a b → AreLooked set b memory → HasPart set a b memory
  part_clean memory s l = record {
    part = s.part;
    begins = s.begins;
    fresh = s.fresh;
    within = s.within;
    is_memory = record {
      size = l.size;
      each = λ i li named. (
          let x = l.each i li named in
          let number : x.0.0 ≡ number_in b s.part i = same_Some x.0.0 _ (sym x.2 ∙ s.each i li named) in
          let value : x.0.1 ≡ value_in b s.part i = value_told b i x.0.0 x.0.1 s.part x.3 x.2 s.within number in
          x.1 ∙ ap Some (λ t. (number t, value t)));
    };
  }

  -- entries found are those after `part` if their numbers are
  listed : (found : ScanSource) (values : List (ℕ × List ℕ)) (part : List Update) → set < 2 ^ segments b.plan
      → AreEntries (named set) b found values → ((i : ℕ) → i < segments b.plan → Names set i
      → number_of found i ≡ number_in b part i) → IsBeginning a.seen part → BeginsFresh a b part
      → IsBeginning part b.seen → IsPart set a b values
  listed found values part among e numbers begins fresh within = record {
    part = part;
    begins = begins;
    fresh = fresh;
    within = within;
    size = e.count;
    each = λ p i at. (
        let x = e.each p i at in
        let low : i < segments b.plan = at_below set (segments b.plan) p i among at in
        let number : x.0.0 ≡ number_in b part i = x.2.0 ∙ numbers i low (at_named set p i at).1 in
        let value : x.0.1 ≡ value_in b part i = seen_value b i x.0 part x.2.1.0 within number in
        x.1 ∙ ap Some (λ t. (number t, value t)));
  }

  -- the entries found can be returned
  pub entries_short : (found : ScanSource) (values : List SegmentValue)
      → AreEntries (named set) b found (map pair_of values) → All (λ v. IsShort v.value) values
  entries_short found values e k d l =
      let x = e.each k _ (at_some set k (omega (arith, e.count, length-map values pair_of))) in
      let v = get_or values k d in
      let at : slice_get (map pair_of values) k ≡ Some (pair_of v) =
      slice_get-map pair_of values k ∙ ap (option_map pair_of) (slice_get-get_or values k d l) in
      rw (same_Some x.0 (pair_of v) (sym x.1 ∙ at)) at x.2.1.1

  pub list_clean : (found : ScanSource) (values : List (ℕ × List ℕ)) → set < 2 ^ segments b.plan → IsCleanScan set a b
      → AreEntries (named set) b found values → ((i : ℕ) → i < segments b.plan → Names set i
      → looked b i ≡ Some (number_of found i)) → IsPart set a b values
  list_clean found values among s e told = listed found values s.part among e (λ i l named.
      same_Some (number_of found i) _ (sym (told i l named) ∙ s.each i l named)) s.begins s.fresh s.within

  pub list_borrowed : (j : ℕ) (view : List (ℕ × List ℕ)) (found : ScanSource) (values : List (ℕ × List ℕ))
      → set < 2 ^ segments b.plan → IsBorrowedScan a b j → IsView b j set view → AreEntries (named set) b found values
      → ((i : ℕ) → number_of found i ≡ (get_or view i (0, [])).0) → IsPart set a b values
  list_borrowed j view found values among s v e are = listed found values v.part among e (λ i l named.
      are i ∙ ap (λ (x : ℕ × List ℕ). x.0) (view_entry b j set view i v l named))
      (s.begins v.part v.beginning v.before) (s.fresh v.part v.beginning v.before) v.beginning

-- from two facts about a successful call
pub both_ok : {T E : Type 0} (r : Result T E) (P Q R : Type 0) → (P → Q → R) → OnOk r P → OnOk r Q → OnOk r R
both_ok (Ok x) P Q R f p q = f p q
both_ok (Err e) P Q R f p q = p

-- the set of all n segments of a seat's registers
module _ (a : Known) (n set : ℕ) (count : n ≡ segments a.plan) (is : set ≡ 2 ^ n - 1) where
  pub all_is : set ≡ all_of a
  all_is = is ∙ ap (λ v. 2 ^ v - 1) count

  pub all_set : 0 < n → IsSetOf a set
  all_set some = let more : 2 ^ 0 < 2 ^ n = pow_below 0 n some in
      record { some = omega arith; among = rw (← count) (omega arith) }

  pub all_count : n ≤ 16 → size set ≡ segments a.plan
  all_count few = ap size is ∙ all_size n few ∙ count

-- the set stays the same while the seat sees more
module _ (a b : Known) (g : Grows a b) where
  pub all_same : all_of a ≡ all_of b
  all_same = ap (λ (p : Plan). 2 ^ segments p - 1) (sym g.plan)

  pub all_grown : (n : ℕ) → n ≡ segments a.plan → n ≤ 16 → segments b.plan ≤ 16
  all_grown n count few = rw (g.plan, ← count) few

-- A scan of all segments:
module _ (a b : Known) (few : segments b.plan ≤ 16) where
  all_names : (i : ℕ) → i < segments b.plan → Names (all_of b) i
  all_names i l = (at_named (all_of b) i i (all_at (segments b.plan) few i l)).1

  pub snapshot_all : (memory : List (ℕ × List ℕ)) → HasPart (all_of b) a b memory → IsSnapshot a b memory
  snapshot_all memory s = grind (arith, all_names)

  pub snapshot_listed : (values : List (ℕ × List ℕ)) → IsPart (all_of b) a b values → IsSnapshot a b values
  snapshot_listed values s = grind (arith, all_size, all_at)

-- a writer's own segment has no further update than those its seat had seen, so the answer of its scan has them all
module _ (a b : Known) (g : Grows a b) (alone : a.high ≡ a.low + 1) (few : segments b.plan ≤ 16) where
  has_all : (part : List Update) → IsBeginning a.seen part → IsBeginning part b.seen
      → number_in b part (own_of b) ≡ number_in b b.seen (own_of b)
  has_all part begins within =
      let own : number_in b b.seen b.low ≡ number_in b a.seen b.low =
      rw (g.plan, g.low) (g.own a.low (omega arith) (omega arith)) in
      let low = number-beginning (starts b.plan) a.seen part b.low begins in
      let high = number-beginning (starts b.plan) part b.seen b.low within in
      omega arith

  pub may_publish : (view : View) → IsScan (all_of b) a b view → MayPublish b view
  may_publish Collected s = grind (arith, has_all, all_names)
  may_publish (Borrowed j) s = grind (arith, has_all)
