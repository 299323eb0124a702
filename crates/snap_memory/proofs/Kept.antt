-- What a scanner has cached stays valid as its seat sees more.
use Rattle.std.proofs.Common.{◌≡◌, ℕ, ◌<◌, inl, inr, List, Option, Some, length, slice_get, slice_set, get_or, refl, ap}
use Rattle.std.proofs.Common.{sym, ◌∙◌, arith}
use Rattle.std.proofs.lemmas.{Bool.cases_eq, Option.same_Some, Option.slice_get_read}
use Rattle.snap_history.specs.History.{number_after, value_after}
use Rattle.snap_history.proofs.{Beginnings.beginning-trans, Lists.get-set_same, Lists.get-set_other}
use Rattle.snap_register.specs.{declared.plan.Plan.Plan, History.starts, Rule.segments, Seat.Known, Seat.Grows}
use Rattle.snap_scan.specs.{declared.segment_value.SegmentValue.SegmentValue}
use Rattle.snap_memory.specs.ScanCaches.{WasSeen, IsKeptOf, AreKept, Fits}
use Rattle.snap_memory.specs.declared.scan_cache.ScanCache.{ScanCache, TheVariants.Absent, TheVariants.Kept}

pub seen_grown : (a b : Known) (i : ℕ) (x : ℕ × List ℕ) → Grows a b → WasSeen a i x → WasSeen b i x
seen_grown a b i x g was = record {
  part = was.part;
  within = beginning-trans was.part a.seen b.seen was.within g.later;
  number_is = was.number_is ∙ ap (λ (p : Plan). number_after (starts p) was.part i) (sym g.plan);
  value_is = was.value_is ∙ ap (λ (p : Plan). value_after (starts p) was.part i) (sym g.plan);
}

pub kept_grown : (a b : Known) (cache : List (Option SegmentValue)) → Grows a b → AreKept a cache → AreKept b cache
kept_grown a b cache g k = λ i x at. (let was = k i x at in (seen_grown a b i _ g was.0, was.1))

pub fits_grown : (a b : Known) (cache : ScanCache) → Grows a b → Fits a cache → Fits b cache
fits_grown a b Absent g f = f
fits_grown a b (Kept cache) g f = (f.0 ∙ ap (λ (p : Plan). segments p) (sym g.plan), kept_grown a b cache.items g f.1)

-- the cached entry of one segment, and a cache in which one entry is replaced
kept_at : (seat : Known) (cache : List (Option SegmentValue)) (i : ℕ) (kept : Option SegmentValue) → AreKept seat cache
    → slice_get cache i ≡ Some kept → IsKeptOf seat i kept
kept_at seat cache i kept all at x e = all i x (at ∙ ap (λ v. Some v) e)

kept_set : (seat : Known) (cache : List (Option SegmentValue)) (k : ℕ) (kept : Option SegmentValue) → AreKept seat cache
    → k < length cache → IsKeptOf seat k kept → AreKept seat (slice_set cache k kept)
kept_set seat cache k kept all inside new i x at = elim (cases_eq i k) [
  | inl is ↦ rw is (new x (same_Some kept (Some x) (sym (get-set_same cache k kept inside) ∙ (rw is at at))))
  | inr other ↦ all i x (sym (get-set_other cache k i kept other) ∙ at)
]

-- a cache in which one entry is replaced, by a call that left the seat unchanged
module _ (a b : Known) (cache : List (Option SegmentValue)) (n i end : ℕ) (long : length cache ≡ n)
    (fits : n ≡ segments a.plan) (count : end ≡ segments a.plan) (test : i < end) where
  pub kept_in : (kept : Option SegmentValue) → b ≡ a → AreKept a cache → IsKeptOf b i kept
      → AreKept a (slice_set cache i kept)
  kept_in kept same all new = kept_set a cache i kept all (omega arith) (rw same at new)

  pub kept_of : (kept : Option SegmentValue) → b ≡ a → AreKept a cache → kept ≡ get_or cache i kept → IsKeptOf b i kept
  kept_of kept same all at = rw same
      (kept_at a cache i kept all (slice_get_read cache (length cache) i kept refl (omega arith) at))
