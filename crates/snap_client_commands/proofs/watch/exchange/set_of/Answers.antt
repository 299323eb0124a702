use Rattle.std.proofs.Common.{◌≡◌, ◌↔◌, ◌∙◌, Contains, List, ap, length, get_or, arith, subst, sym, take, ℕ}
use Rattle.std.proofs.{Math.Seq.take-length, lemmas.List.take_more}
use Rattle.snap_frame.specs.Sets.{Names}
use Rattle.snap_client_commands.proofs.WatchSets.{names_more, some_named, with}
use Rattle.snap_client_commands.proofs.watch.exchange.set_of.Goals as goal

pub loop-segment-preserved : goal.loop-segment-preserved
loop-segment-preserved c =
    let segments = c.args.segments.now in
    let at = c.loop-segment.segment-index in
    let segment = get_or segments at 0 in
    let bits = c.loop-segment.bits in
    let small = c.requires.below at 0 c.loop-segment-test.true in (
      λ k. subst (λ (xs : List ℕ). Names (with bits segment) k ↔ Contains xs k)
          (sym (take_more segments at 0 c.loop-segment-test.true))
          (names_more bits segment (take at segments) small c.loop-segment.invariant.0 k),
      λ _. some_named bits segment small,
    )

pub returns-clause-names : goal.returns-clause-names
returns-clause-names c =
    let ends : c.loop-segment.segment-index ≡ length c.args.segments.now = grind arith in
    subst (λ (xs : List ℕ). (k : ℕ) → Names c.loop-segment.bits k ↔ Contains xs k)
    (ap (λ (n : ℕ). take n c.args.segments.now) ends ∙ take-length c.args.segments.now)
    c.loop-segment.invariant.0
