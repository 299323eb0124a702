use Rattle.std.proofs.Common.{arith, rules, ◌≡◌, ℕ, ◌^◌, ◌<◌, ◌≤◌, ◌∷◌, ◌++◌, List, [], length, map, take, slice_get}
use Rattle.std.proofs.Common.{Some, Vec, Global, refl, ap, sym, ◌∙◌}
use Rattle.std.proofs.lemmas.{List.map-append, List.take_all, Option.slice_get_read}
use Rattle.snap_history.proofs.Lists.{get-push}
use Rattle.snap_register.proofs.Pairs.{map_next}
use Rattle.snap_restart.specs.Opened.{contents}
use Rattle.snap_restart.proofs.store.values_of.Goals as goal

abbrev contents_of : ℕ × Vec ℕ Global → ℕ × List ℕ
contents_of x = (x.0, x.1.items)

pub loop-segment-preserved : goal.loop-segment-preserved
loop-segment-preserved g c =
    let inv = c.loop-segment.invariant in
    let vs = c.loop-segment.values.items in
    let ss = c.deref-segment-items.result.now in
    let k : ℕ = c.loop-segment.segment-index in
    let s = c.segment-item.result in
    let e : slice_get ss k ≡ Some s = slice_get_read ss (length ss) k s refl c.loop-segment-test.true c.segment-item.is
    in
    let bytes : c.in_ok-value.value.items ≡ s.value = search rules in
    let number : c.number.result ≡ s.number = c.number.ensures.number in
    let x : ℕ × Vec ℕ Global = (c.number.result, c.in_ok-value.value) in
    let fits : length c.in_ok-value.value.items ≤ 4080 = rw (bytes, ← c.value.ensures.value) c.value.ensures.size in
    let pushed : c.push.new.self.items ≡ vs ++ x ∷ [] = search rules in
    let same : contents_of x ≡ contents s = λ i. (number i, bytes i) in
    rw pushed (record {
      contents = map-append contents_of vs (x ∷ []) ∙ (λ i. inv.contents i ++ same i ∷ [])
          ∙ sym (map_next contents k ss s e);
      numbers = get-push (λ z. z.0 < 2 ^ 63) vs x inv.numbers c.number.ensures.low;
      sizes = get-push (λ z. length z.1.items ≤ 4080) vs x inv.sizes fits;
    })

all_of : {A B : Type 0} (f : A → B) (k : ℕ) (items xs : List A) → length items ≤ k → items ≡ xs
    → map f (take k items) ≡ map f xs
all_of f k items xs short same = ap (map f) (take_all k items short ∙ same)

pub returns : goal.returns
returns g c = grind (arith, all_of)
