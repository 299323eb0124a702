use Rattle.std.proofs.lemmas.Grind.{common_steps}
use Rattle.std.proofs.Common.{length, refl, ap, sym, ◌∙◌, arith}
use Rattle.snap_writer.specs.Writer.{phase_of}
use Rattle.std.proofs.lemmas.List.{length-append, length-map}
use Rattle.snap_restart.proofs.Removals.{all_yielded, get_next}
use Rattle.snap_restart.proofs.store.place_writers.Goals as goal

pub new-requires : goal.new-requires
new-requires g c =
    let inv = c.writers.invariant in
    let ws = c.writers.writers.items in
    let starts = c.requires.starts.each (length ws) _ _
    (get_next (λ w. w.segment) ws _ _ _ c.in-Some.segment inv.segments c.in-Some.ensures.steps.0)
    (get_next (λ w. w.seat) ws _ _ _ c.in-Some-next.seat inv.seats c.in-Some-next.ensures.cases.0) in
    record {
      number = starts.number_is;
      value = starts.value_is;
      phase = starts.phase_is ∙ sym (ap phase_of starts.unfenced);
    }

pub returns-clause-segments : goal.returns-clause-segments
returns-clause-segments g c = let inv = c.writers.invariant in
    all_yielded _ _ _ inv.segments inv.segments_long c.in-None.ensures.steps.0

pub returns-clause-seats : goal.returns-clause-seats
returns-clause-seats g c =
    let inv = c.writers.invariant in
    let all = simp length-map at (ap length (returns-clause-segments g c)) in
    let seats = simp (length-append, length-map) at (ap length inv.seats) in
    all_yielded _ _ _ inv.seats refl (omega (arith, c.requires.starts.size, all, seats))

pub unreachable-requires : goal.unreachable-requires
unreachable-requires g c = grind (arith, common_steps)

pub writers-preserved : goal.writers-preserved
writers-preserved g c = grind (arith, common_steps)

pub keep-requires : goal.keep-requires
keep-requires g c = grind (arith, common_steps)
