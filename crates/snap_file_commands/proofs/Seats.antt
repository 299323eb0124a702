-- Files that are sorted by the segments in their headers.
use Rattle.std.proofs.Common.{◌≡◌, ◌≢◌, ℕ, ◌+◌, ◌<◌, List, length, Option, Some, None, slice_set, slice_get}
use Rattle.std.proofs.Common.{sum_by, replicate, inl, inr, sym, ◌∙◌, ap, arith, length-set}
use Rattle.std.proofs.lemmas.{Bool.cases_eq, Option.get_or_from_slice_get, Option.slice_get_within}
use Rattle.std.proofs.lemmas.List.{get_or-replicate, length-replicate, Sums.sum_by-set, Folds.sum_by-replicate}
use Rattle.snap_history.proofs.Lists.{get-set_same, get-set_other}
use Rattle.snap_file_commands.specs.declared.segment_order.SegmentPlace.{SegmentPlace}
use Rattle.snap_file_commands.specs.SegmentOrder.{IsOneOf, IsSeating, Says, file_count}

no_file : (count i : ℕ) (file : ℕ) → slice_get (replicate {A = Option ℕ} count None) i ≡ Some (Some file) → ⊥
no_file count i file sits =
    let inside = slice_get_within (replicate {A = Option ℕ} count None) i (Some file) sits in
    let here = get_or_from_slice_get (replicate {A = Option ℕ} count None) i (Some file) None sits in
    let none = get_or-replicate {A = Option ℕ} count i None None
    (omega (arith, length-replicate {A = Option ℕ} count None)) in
    cc

-- at first no segment has a file
pub none_yet : (places : List SegmentPlace) (count : ℕ) → IsSeating places count 0 (replicate count None)
none_yet places count = record {
  size = length-replicate count None;
  full = sum_by-replicate file_count count None ∙ omega arith;
  each = λ file p below. absurd (omega arith);
  back = λ i file sits. absurd (no_file count i file sits);
}

-- one more file, of a segment that had none
module _ (places : List SegmentPlace) (count files : ℕ) (seats : List (Option ℕ)) (p : SegmentPlace)
    (says : Says places files p) (one : IsOneOf count p) (free : slice_get seats p.index ≡ Some None)
    (seating : IsSeating places count files seats) where
  inside : p.index < length seats
  inside = omega (arith, one.0, seating.size)

  full_after : sum_by file_count (slice_set seats p.index (Some files)) ≡ files + 1
  full_after =
      let e = sum_by-set file_count seats p.index (Some files) None inside in
      omega (arith, e, ap file_count (get_or_from_slice_get seats p.index None None free), seating.full)

  each_after : (file : ℕ) (q : SegmentPlace) → file < files + 1 → Says places file q
      → slice_get (slice_set seats p.index (Some files)) q.index ≡ Some (Some file)
  each_after file q below says_q = elim (cases_eq file files) [
    | inl same ↦
        let e : q ≡ p = cc in
        rw (e, same) (get-set_same seats p.index (Some files) inside)
    | inr other ↦
        let sits = seating.each file q (omega arith) says_q in
        let differs : q.index ≢ p.index = λ same. cc in
        get-set_other seats p.index q.index (Some files) differs ∙ sits
  ]

  back_after : (i file : ℕ) → slice_get (slice_set seats p.index (Some files)) i ≡ Some (Some file)
      → (file < files + 1) × Says places file (record { index = i; count = count })
  back_after i file sits = elim (cases_eq i p.index) [
    | inl same ↦
        let here = get-set_same seats p.index (Some files) inside in
        let is : file ≡ files = cc in
        (omega arith, rw (is, same, ← one.1) says)
    | inr other ↦
        let was = seating.back i file (sym (get-set_other seats p.index i (Some files) other) ∙ sits) in
        (omega (arith, was.0), was.1)
  ]

  pub one_more : IsSeating places count (files + 1) (slice_set seats p.index (Some files))
  one_more = record {
    size = length-set seats p.index (Some files) ∙ seating.size;
    full = full_after;
    each = each_after;
    back = back_after;
  }
