use Rattle.std.proofs.Common.{rules, ◌≡◌, ℕ, List, [], ◌∷◌, ◌++◌, length, map, take, slice_get, Some, refl, arith}
use Rattle.std.proofs.lemmas.{Option.slice_get_read, Result.IfOk-weaker}
use Rattle.snap_history.specs.Pairs.{Pairs}
use Rattle.snap_register.{specs.declared.plan.Opening.Opening, proofs.registers.Registers.open.Goals.After-loop-start}
use Rattle.snap_register.{proofs.Pairs.Pairs-push, proofs.Pairs.map_next, specs.Parts.IsPacked, specs.Setup.plan_with}
use Rattle.snap_register.proofs.Packed.{ready_is, opening_is, packed_all, packed_length}
use Rattle.snap_register.proofs.registers.Registers.open.Goals as goal

pub loop-start-preserved : goal.loop-start-preserved
loop-start-preserved c =
    let vs = c.args.values.now in
    let k : ℕ = c.loop-start.start-index in
    let x = c.start-item.result in
    let o : Opening = c.in_ok-opening_of.field-0 in
    let e : slice_get vs k ≡ Some x = slice_get_read vs (length vs) k x refl c.loop-start-test.true c.start-item.is in
    let packed : IsPacked (x.0, x.1.items) o = record {
      number_is = search rules;
      low = c.requires.numbers k x e;
      wide = search rules;
      block = search rules;
    } in
    let items : c.push.new.self.items ≡ c.loop-start.openings.items ++ o ∷ [] = search rules in
    let before : List (ℕ × List ℕ) = map (λ x. (x.0, x.1.items)) (take k vs) in
    let more = Pairs-push (λ _. IsPacked) before c.loop-start.openings.items (
      x.0,
      x.1.items,
    ) o c.loop-start.invariant packed in
    rw (map_next {B = ℕ × List ℕ} (λ x. (x.0, x.1.items)) k vs x e, items) more

all_packed : (c : After-loop-start)
    → Pairs (λ _. IsPacked) (map (λ x. (x.0, x.1.items)) c.args.values.now) c.loop-start.openings.items
all_packed c = packed_all _ _ _ _ c.loop-start-test.false c.loop-start.invariant

all_opened : (c : After-loop-start) → length c.args.values.now ≡ length c.loop-start.openings.items
all_opened c = packed_length _ _ _ (all_packed c)

pub open-requires-clause-count : goal.open-requires-clause-count
open-requires-clause-count c =
    let long = all_opened (goal.at.open-requires-clause-count c).After-loop-start in
    let some = c.requires.count.0 in
    let few = c.requires.count.1 in
    (omega arith, omega arith, c.requires.scanners)

pub open-requires-clause-ready : goal.open-requires-clause-ready
open-requires-clause-ready c =
    let a = (goal.at.open-requires-clause-ready c).After-loop-start in
    let few = c.requires.count.1 in
    ready_is c.args.scanners c.args.looks _ _ c.requires.scanners (omega (arith, all_opened a))
    c.requires.looks (all_packed a)

pub returns-clause-seats : goal.returns-clause-seats
returns-clause-seats c =
    let p = all_packed (goal.at.returns-clause-seats c).After-loop-start in
    let is = opening_is c.args.scanners c.args.looks _ _ p in
    IfOk-weaker c.open.result _ _ (λ r s. (
      s.0,
      plan_with c.args.scanners c.args.looks 512 c.loop-start.openings.items,
      is,
      s.1,
      s.2,
    )) c.open.ensures.seats

pub returns-clause-writers : goal.returns-clause-writers
returns-clause-writers c =
    let long = all_opened (goal.at.returns-clause-writers c).After-loop-start in
    IfOk-weaker c.open.result _ _ (λ r s. let a = s.0 in omega arith) c.open.ensures.counts
