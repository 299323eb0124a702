-- one more entry
use Rattle.std.proofs.Common.{rules, ◌≡◌, ℕ, suc, ◌+◌, ◌<◌, List, [], ◌∷◌, ◌++◌, length, map, refl, ap, sym, ◌∙◌, arith}
use Rattle.snap_scan.proofs.Sets.{with, without, named_at}
use Rattle.std.proofs.{lemmas.Option.slice_get_read, lemmas.Option.get_or_from_slice_get, lemmas.Bool.iff_false}
use Rattle.std.proofs.{lemmas.List.map_push}
use Rattle.snap_scan.specs.{Sets.named_below}
use Rattle.snap_world.proofs.{collector.entries_of.Goals.then-has+in_ok-value+in_ok-push}
use Rattle.snap_world.proofs.{collector.entries_of.Goals.else-has}
use Rattle.snap_world.specs.{declared.event.PartEntry.PartEntry, inside.Gathers.entry_in, inside.Gathers.value_in}
use Rattle.snap_world.specs.{Answers.pair_of}
use Rattle.snap_world.proofs.collector.entries_of.Goals as goal

abbrev behind : List (ℕ × List ℕ) → ℕ → List ℕ → List (ℕ × List ℕ)
behind entries i value = entries ++ (i, value) ∷ []

pub loop-segment-init : goal.loop-segment-init
unfolding named_below
loop-segment-init c = record { set = refl; entries = ap (map pair_of) c.new-part.ensures.items }

pub index-requires : goal.index-requires
index-requires c = search (rules, named_at)

pub loop-segment-preserved : goal.loop-segment-preserved
loop-segment-preserved c =
    let inv = c.loop-segment.invariant in
    let k = c.loop-segment.segment in
    let set = c.args.set.bits in
    let memory = c.args.values.now.items in
    let one : suc k ≡ k + 1 = omega arith in elim c.if-has.branch [
      | then-has+in_ok-value+in_ok-push w ↦ (
          let l : k < 16 = omega (arith, c.loop-segment-test.true) in
          let names = c.has.ensures.names.0 w.if-has.true in
          let at = named_at set k l names in
          let there : k < length memory = c.requires.within at.0 k at.1 in
          let v = w.index.result.now in
          let value : v ≡ value_in memory k = sym (get_or_from_slice_get memory k v []
          (slice_get_read memory (length memory) k v refl there w.index.ensures)) in
          let copied : w.in_ok-value.value.items ≡ value_in memory k =
          w.in_ok-value.ensures.items_if_clones_equal (λ x y e. e) ∙ w.as_slice.ensures.bytes ∙ value in
          let entry : PartEntry = record { segment = k; value = w.in_ok-value.value } in record {
            set = refl;
            entries = ap (λ p. map pair_of p.items) w.part-is ∙ ap (map pair_of) w.in_ok-push.ensures.items
                ∙ map_push pair_of c.loop-segment.part.items entry ∙ ap (λ xs. xs ++ pair_of entry ∷ []) inv.entries
                ∙ ap (behind (map (entry_in memory) (named_below set k)) k) copied
                ∙ sym (map_push (entry_in memory) (named_below set k) k)
                ∙ ap (map (entry_in memory)) (sym (with set k names) ∙ ap (named_below set) one);
          })
      | else-has w ↦ record {
        set = refl;
        entries = ap (λ p. map pair_of p.items) w.part-is ∙ inv.entries ∙ ap (map (entry_in memory)) (sym (without set k
            (iff_false c.has.ensures.names w.if-has.false)) ∙ ap (named_below set) one);
      }
    ]
