-- Lists of entries.
use Rattle.std.proofs.Common.{◌≡◌, ℕ, zero, suc, ◌+◌, ◌-◌, ◌^◌, ◌<◌, ◌≤◌, All, List, [], ◌∷◌, ◌++◌, length, map}
use Rattle.std.proofs.Common.{slice_get, get_or, Some, ap, sym, subst, ◌∙◌, arith}
use Rattle.std.proofs.lemmas.{Option.slice_get-get_or, Option.slice_get-map, Option.same_Some, List.Elements.All-push}
use Rattle.std.{specs.Option.option_map, proofs.lemmas.List.length-map, proofs.lemmas.List.length_push}
use Rattle.snap_history.{specs.Limits.IsNumber, specs.Limits.IsShort, proofs.Beginnings.number-beginning}
use Rattle.snap_register.specs.{Seat.Known, Seat.IsBelow, Seat.number_in, Seat.value_in, History.starts, Rule.segments}
use Rattle.snap_scan.specs.Sets.{Names, named, named_below, size, IsAt}
use Rattle.snap_scan.proofs.Sets.{few, at_named, at_below, ascends, some_among, with, more}
use Rattle.snap_scan.specs.{Values.pair_of, declared.segment_value.SegmentValue.SegmentValue}
use Rattle.snap_memory.specs.Scans.{IsPart}
use Rattle.snap_frame.specs.declared.named.NamedValue.{NamedValue}
use Rattle.snap_frame.specs.Messages.{IsValue, IsNamedValue, Ascend, AreEntries}
use Rattle.snap_service.specs.Answers.{segment_of, named_pair}

-- if a property holds for all items of a list, and for one more item, it holds for the longer list
pub all_more : {A : Type 0} (P : A → Type 0) (xs ys : List A) (x : A) → ys ≡ xs ++ x ∷ [] → All P xs → P x → All P ys
all_more P xs ys x e all one = subst (λ l. All P l) (sym e) (All-push P xs x all one)

-- an element of a mapped list is the image of the element at its place
get_as : {A B : Type 0} (f : A → B) (xs : List A) (k : ℕ) (d : A) → k < length xs
    → slice_get (map f xs) k ≡ Some (f (get_or xs k d))
get_as f xs k d l = slice_get-map f xs k ∙ ap (option_map f) (slice_get-get_or xs k d l)

-- the numbers in a scan's answer are within the limit
module _ (set : ℕ) (a b : Known) (among : set < 2 ^ segments b.plan) (below : IsBelow b) where
  number_fits : (values : List (ℕ × List ℕ)) (k : ℕ) (x : ℕ × List ℕ) → IsPart set a b values
      → slice_get values k ≡ Some x → k < size set → IsNumber x.0
  number_fits values k x part at l =
      let i : ℕ = get_or (named set) k 0 in
      let here : IsAt set k i = slice_get-get_or (named set) k 0 l in
      let inside : i < segments b.plan = at_below set (segments b.plan) k i among here in
      let is : x ≡ (number_in b part.part i, value_in b part.part i) = same_Some _ _ (sym at ∙ part.each k i here) in
      omega (
        arith,
        ap (λ (y : ℕ × List ℕ). y.0) is,
        below i inside,
        number-beginning (starts b.plan) part.part b.seen i part.within,
      )

  -- so the list of a scan's answer is within the limits of a reply
  pub listed : (values : List SegmentValue) → segments b.plan ≤ 16 → 0 < set → IsPart set a b (map pair_of values)
      → All (λ s. IsShort s.value) values → AreEntries IsValue values
  listed values most some part short =
      let long = length-map values pair_of in
      let few = few set in
      let one = some_among set (segments b.plan) most among some in
      record {
        one = omega arith;
        few = omega arith;
        each = λ k d h. (
          number_fits (map pair_of values) k (pair_of (get_or values k d)) part
              (get_as pair_of values k d h) (omega arith),
          short k d h,
        );
      }

  pub named_listed : (list : List NamedValue) → segments b.plan ≤ 16 → 0 < set → IsPart set a b (map named_pair list)
      → map segment_of list ≡ named set → All (λ v. IsShort v.value) list → AreEntries IsNamedValue list × Ascend list
  named_listed list most some part names short =
      let long = length-map list named_pair in
      let few = few set in
      let one = some_among set (segments b.plan) most among some in (
        record {
          one = omega arith;
          few = omega arith;
          each = λ k d h. (
            (at_named set k _ (ap (λ l. slice_get l k) (sym names) ∙ get_as segment_of list k d h)).0,
            number_fits (map named_pair list) k (named_pair (get_or list k d)) part
                (get_as named_pair list k d h) (omega arith),
            short k d h,
          );
        },
        λ p x y first second. ascends set 16 p (p + 1) x.segment y.segment
            (ap (λ l. slice_get l p) (sym names) ∙ slice_get-map segment_of list p ∙ ap (option_map segment_of) first)
            (ap (λ l. slice_get l (p + 1)) (sym names) ∙ slice_get-map segment_of list (p + 1)
            ∙ ap (option_map segment_of) second) (omega arith),
      )

-- if two lists have equal numbers and values, and one has short values, so has the other
pub short_as : (list : List NamedValue) (values : List SegmentValue) → map named_pair list ≡ map pair_of values
    → All (λ s. IsShort s.value) values → All (λ v. IsShort v.value) list
short_as list values same short k d h =
    let inside : k < length values = omega (arith, simp length-map at (ap length same)) in
    let x : SegmentValue = get_or values k (record { number = 0; value = [] }) in
    let is : named_pair (get_or list k d) ≡ pair_of x =
    same_Some _ _ (sym (get_as named_pair list k d h) ∙ ap (λ l. slice_get l k) same
    ∙ get_as pair_of values k (record { number = 0; value = [] }) inside) in
    subst (λ (y : ℕ × List ℕ). IsShort y.1) (sym is) (short k _ inside)

-- a set has no more segments below one place than below a later one
pub count_le : (set k d : ℕ) → length (named_below set k) ≤ length (named_below set (k + d))
count_le set k zero = let same : k + zero ≡ k = omega arith in rw same (omega arith)
count_le set k (suc d) =
    let up : k + suc d ≡ suc (k + d) = omega arith in
    rw up (more set (k + d) (λ l. length (named_below set k) ≤ length l)
    (λ is. omega (arith, count_le set k d, length_push (named_below set (k + d)) (k + d))) (λ un. count_le set k d))

-- each segment of the set counts
pub counts : (set k : ℕ) → k < 16 → Names set k → length (named_below set k) < size set
counts set k l is =
    let all : suc k + (15 - k) ≡ 16 = omega arith in
    omega (
      arith,
      ap length (with set k is),
      length_push (named_below set k)
          k,
      rw all at (count_le set (suc k) (15 - k)),
    )
