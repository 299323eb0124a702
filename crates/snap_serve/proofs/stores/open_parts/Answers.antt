use Rattle.std.proofs.Common.{◌≡◌, ◌+◌, ◌++◌, ◌∙◌, List, [], ◌∷◌, Option, Some, arith, ap, length, slice_get}
use Rattle.std.specs.Option.{option_to_list}
use Rattle.std.proofs.lemmas.{List.length_push, Option.slice_get_within}
use Rattle.snap_history.proofs.Lists.{get-append_last, get-append_left}
use Rattle.snap_memory.specs.{Registers.RegistersId, plan.Plan.Plan, Seat.Known}
use Rattle.snap_serve.specs.Scanners.{AreScanners}
use Rattle.snap_serve.proofs.stores.open_parts.Goals as goal
use Rattle.snap_serve.proofs.stores.open_parts.Goals.{in-Some+in-Some-pop+in_ok-new-in-Some-pop, in-Some+in-None-pop}
use Rattle.snap_serve.proofs.stores.open_parts.Goals.{in-None}

-- of these scanners the last one was taken, if there was one
module _ (old new : List Known) (taken : Option Known) (is : old ≡ new ++ option_to_list taken) where
  left : (table : RegistersId) (plan : Plan) → AreScanners table plan old → AreScanners table plan new
  left table plan all k b at = all k b (ap (λ s. slice_get s k) is
      ∙ (get-append_left new (option_to_list taken) k (slice_get_within new k b at) ∙ at))

  last : (x : Known) → taken ≡ Some x → (length old ≡ length new + 1) × (slice_get old (length new) ≡ Some x)
  last x some = let whole : old ≡ new ++ x ∷ [] = rw some at is in
      (ap length whole ∙ length_push new x, ap (λ s. slice_get s (length new)) whole ∙ get-append_last new x)

pub new-requires-clause-memory : goal.new-requires-clause-memory
new-requires-clause-memory g c = c.requires.scanners _ _
    (last _ _ c.pop.result c.pop.ensures.items c.in-Some-pop.scanner c.in-Some-pop.is).1

pub open_desks-requires-clause-scanners : goal.open_desks-requires-clause-scanners
open_desks-requires-clause-scanners g c = elim c.match-observer.branch [
  | in-Some+in-Some-pop+in_ok-new-in-Some-pop w ↦ rw w.scanners-is
      (left _ _ w.pop.result w.pop.ensures.items _ _ c.requires.scanners)
  | in-Some+in-None-pop w ↦ rw w.scanners-is (left _ _ w.pop.result w.pop.ensures.items _ _ c.requires.scanners)
  | in-None w ↦ rw w.scanners-is c.requires.scanners
]

pub open_desks-requires-clause-metrics : goal.open_desks-requires-clause-metrics
open_desks-requires-clause-metrics g c = let few = c.requires.metrics in elim c.match-observer.branch [
  | in-Some+in-Some-pop+in_ok-new-in-Some-pop w ↦ (
      let gone = (last _ _ w.pop.result w.pop.ensures.items w.in-Some-pop.scanner w.in-Some-pop.is).0 in
      rw w.scanners-is (omega (arith, gone, few.1)))
  | in-Some+in-None-pop w ↦ (let none = rw w.in-None-pop.is at w.pop.ensures.cases in
      rw w.scanners-is (omega (arith, none.1)))
  | in-None w ↦ rw w.scanners-is (few.0 w.in-None.is)
]
