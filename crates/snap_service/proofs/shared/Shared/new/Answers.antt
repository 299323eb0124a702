use Rattle.std.proofs.Common.{◌≡◌, ◌+◌, length, ap, sym, ◌∙◌, arith}
use Rattle.std.{specs.Vec.Iter.into_iter_items, proofs.lemmas.List.length_push, proofs.lemmas.List.length-drop}
use Rattle.snap_history.proofs.Removals.{Taken, taken}
use Rattle.snap_service.proofs.shared.Shared.new.Goals as goal
use Rattle.snap_service.proofs.shared.Shared.new.Goals.{In-Some}

-- the next writer that is taken is of the next segment
next_of : (g : _) (c : In-Some g) → Taken (length c.writers.locks.items) c.args.writers.items
    c.in-Some.writer (into_iter_items c.next.new.self)
next_of g c = taken _ _ _ _ _ c.writers.invariant.rest c.in-Some.ensures.steps.0

pub new-requires-clause-memory : goal.new-requires-clause-memory
new-requires-clause-memory g c =
    let next = next_of g (goal.at.new-requires-clause-memory g c).In-Some in
    (c.requires.each _ c.in-Some.writer next.at).0

pub new-requires-clause-own : goal.new-requires-clause-own
new-requires-clause-own g c =
    let next = next_of g (goal.at.new-requires-clause-own g c).In-Some in
    omega (arith, (c.requires.each _ c.in-Some.writer next.at).1)

pub writers-preserved : goal.writers-preserved
writers-preserved g c =
    let inv = c.writers.invariant in
    let next = next_of g (goal.at.writers-preserved g c).In-Some in
    let on : length c.push.new.self.items ≡ length c.writers.locks.items + 1 =
    ap length c.in-Ok-push.ensures.items ∙ length_push c.writers.locks.items _ in
    record {
      rest = next.left _ on;
      long = omega (arith, ap length c.in-Some.ensures.steps.0);
      within = omega arith;
      room = omega arith;
    }

pub invariant_of-result : goal.invariant_of-result
invariant_of-result g c =
    let inv = c.writers.invariant in
    let none = sym inv.long ∙ c.in-None.ensures.steps.0 in
    let left = ap length inv.rest ∙ length-drop (length c.writers.locks.items) c.args.writers.items in
    let within = inv.within in let all = c.requires.all in record { all = omega arith }

pub unreachable-requires : goal.unreachable-requires
unreachable-requires g c =
    let inside = (next_of g (goal.at.unreachable-requires g c).In-Some).inside in
    let full = c.in-Err.ensures.full in
    let count = c.writers.locks.ok.0 in let room = c.writers.invariant.room in omega arith
