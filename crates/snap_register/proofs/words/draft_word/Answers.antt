use Rattle.std.proofs.Common.{◌≡◌, ℕ, ◌+◌, ◌-◌, List, ◌++◌, ◌∷◌, [], length, take, ap, ◌∙◌, arith, length-append}
use Rattle.std.proofs.Math.Seq.{take-append_seam}
use Rattle.atomic_table.specs.Seated.{TableId}
use Rattle.snap_register.specs.{Registers.Mine, Rule.cell, Rule.without_last}
use Rattle.snap_register.proofs.{Drafts.drafting, Later.seated_pool, Pools.redrafts, Pools.reuses, Spots.next_inside}
use Rattle.snap_register.proofs.words.draft_word.Goals as goal

pub load-old-requires : goal.load-old-requires
load-old-requires c =
    let next = c.requires.place in
    let seated = c.requires.seated.2 in (
      c.requires.own,
      rw (← c.requires.own) (next_inside seated next),
      reuses (Unit {0}) _ _ _ c.args.seat.now.me next.own _ seated.here next.owns.0 next.owns.1
          next.free next.inside next.is,
    )

pub store-requires : goal.store-requires
store-requires c =
    let next = c.requires.place in
    let seated = c.requires.seated.2 in
    let v = c.args.seat.now.me.0 in
    let step = c.load-old.ensures in
    let long : length (v.pool.draft ++ c.load-old.result ∷ []) ≡ length v.pool.draft + 1 =
    length-append v.pool.draft (c.load-old.result ∷ []) in
    let last : length v.pool.draft ≡ length (v.pool.draft ++ c.load-old.result ∷ []) - 1 = omega arith in (
      step.0 ∙ c.requires.own,
      rw (← c.requires.own) (next_inside seated next),
      rw step.2.0 (redrafts (Unit {0}) _ _ _ _ next.own _ _ seated.here next.owns.0 next.owns.1 next.free
          (omega arith) (omega (arith, next.inside)) (next.is ∙ ap (cell v.plan next.own v.pool.free_buffer) last)),
    )

pub returns-else-old-x : goal.returns-else-old-x
returns-else-old-x c =
    let a = c.args.seat.now.me in
    let step = c.load-old.ensures in
    let s = c.requires.seated in
    let by = step.2.0 ∙ ap (λ (z : ℕ). drafting a (a.0.pool.draft ++ z ∷ [])) c.if-old-x.false in
    record {
      drafted = (step.0, step.1, by);
      seated = (s.0, s.1, seated_pool s.2 _ (ap (λ (t : TableId). t.words) step.0) by);
      old = step.2.1;
    }

pub returns-then-old-x : goal.returns-then-old-x
returns-then-old-x c =
    let a = c.args.seat.now.me in
    let d : List ℕ = a.0.pool.draft in
    let r : ℕ = c.load-old.result in
    let load = c.load-old.ensures in
    let step = c.store.ensures in
    let s = c.requires.seated in
    let last : length (d ++ r ∷ []) - 1 ≡ length d = omega (arith, length-append d (r ∷ [])) in
    let front : take (length (d ++ r ∷ []) - 1) (d ++ r ∷ []) ≡ d = rw last (take-append_seam d (r ∷ [])) in
    let by = step.2 ∙ (ap (λ (m : Mine). drafting m (without_last m.0.pool.draft ++ c.args.x ∷ [])) load.2.0
    ∙ ap (λ (l : List ℕ). drafting a (l ++ c.args.x ∷ [])) front) in
    record {
      drafted = (step.0 ∙ load.0, step.1 ∙ load.1, by);
      seated = (s.0, s.1, seated_pool s.2 _ (ap (λ (t : TableId). t.words) (step.0 ∙ load.0)) by);
      old = load.2.1;
    }
