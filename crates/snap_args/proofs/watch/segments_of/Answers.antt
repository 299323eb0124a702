use Rattle.std.proofs.Common.{◌≡◌, ◌≢◌, ◌<◌, ◌+◌, ◌++◌, ◌∷◌, [], All, Bor, List, Option, ℕ, arith, length, map, rules}
use Rattle.std.proofs.Common.{slice_get, slice_index, subst, sym}
use Rattle.std.proofs.lemmas.{Grind.common_steps, List.Elements.All-append}
use Rattle.std.specs.declared.{vec.Vec.Vec, alloc.Global.Global}
use Rattle.clap.specs.Words.{Text}
use Rattle.snap_order.specs.Limits.{MAX_COUNT}
use Rattle.snap_args.specs.{Numbers.AreSegmentsOf, Numbers.IsNumberOf}
use Rattle.snap_args.specs.declared.fault.WordFault.TheVariants.{Memory}
use Rattle.snap_args.proofs.Watched.{all_one, more_numbers, word_at}
use Rattle.snap_args.proofs.watch.segments_of.Goals as goal

pub loop-word-preserved : goal.loop-word-preserved
loop-word-preserved c =
    let items = c.loop-word.segments.items in
    let whole : c.push.new.self.items ≡ items ++ c.in_ok-segment.segment ∷ [] = search rules in
    let read = c.in_ok-segment.ensures in (
      search rules,
      subst (All (λ s. s < MAX_COUNT)) (sym whole) (All-append (λ s. s < MAX_COUNT) items
          (c.in_ok-segment.segment ∷ []) c.loop-word.invariant.1
          (all_one (λ s. s < MAX_COUNT) c.in_ok-segment.segment (omega (arith, read.0)))),
      subst (λ (all : List ℕ). (k : ℕ) → k < c.loop-word.word-index + 1
          → IsNumberOf (slice_get (map {A = Bor (List ℕ)} (λ w. w.now) c.args.words.now) k)
          (slice_index all k)) (sym whole)
          (more_numbers (slice_get (map {A = Bor (List ℕ)} (λ w. w.now) c.args.words.now)) items
          c.in_ok-segment.segment c.loop-word.word-index c.loop-word.invariant.0
          (subst (λ (o : Option Text). IsNumberOf o c.in_ok-segment.segment)
          (sym (word_at c.args.words.now c.loop-word.word-index _ (grind arith))) read.1) c.loop-word.invariant.2),
    )

pub returns-in_err-segment : goal.returns-in_err-segment
returns-in_err-segment c =
    let words = map {A = Bor (List ℕ)} (λ w. w.now) c.args.words.now in
    let at = c.loop-word.word-index in
    let within : at < length c.args.words.now = grind arith in
    let there : at < length words = grind (arith, common_steps) in
    let none : c.in_err-segment.field-0.0 ≢ Memory → (all : Vec ℕ Global) → All (λ s. s < MAX_COUNT) all.items
    × AreSegmentsOf words all.items → ⊥ =
    λ other all is.
    let small = is.0 at 0 (omega (arith, there, is.1.0)) in
    let number = subst (λ (o : Option Text). IsNumberOf o (slice_index all.items at))
    (word_at c.args.words.now at _ within) (is.1.1 at there) in
    c.in_err-segment.ensures other (slice_index all.items at) (omega (arith, small), number) in
    search rules
