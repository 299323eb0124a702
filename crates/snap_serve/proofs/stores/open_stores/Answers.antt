use Rattle.std.proofs.Common.{◌≡◌, ℕ, Some, length, slice_get, ap, arith, subst, sym, ◌∙◌}
use Rattle.std.proofs.lemmas.Iterator.{Adapters.YieldsList-from_vec, Consumers.YieldsList-end}
use Rattle.std.proofs.lemmas.List.{length_push}
use Rattle.snap_history.proofs.{Lists.get-push_at, Removals.taken}
use Rattle.snap_memory.specs.Seat.{own_of}
use Rattle.snap_service.proofs.Asked.{asked_found}
use Rattle.snap_serve.proofs.stores.open_stores.Goals as goal

pub new-requires : goal.new-requires
new-requires g c =
    let ws = c.args.writers.items in
    let k : ℕ = length c.writers.yielded in
    let next = taken k ws _ _ _ c.writers.invariant.rest c.in-Some.ensures.steps.0 in
    record {
      memory = (c.requires.writers.each k c.in-Some.writer next.at).0;
      asked = asked_found g.M.Memory.asked c.in-Some.writer (c.requires.opened k c.in-Some.writer next.at);
    }

pub writers-init : goal.writers-init
writers-init g c = record {
  rest = search;
  long = search;
  within = omega arith;
  stores = search;
  handles = record {
    all = search;
    each = λ i h at. let none = subst (λ xs. slice_get xs i ≡ Some h) c.new-handles.ensures.items at in
        absurd cc;
  };
}

pub writers-preserved : goal.writers-preserved
writers-preserved g c =
    let ws = c.args.writers.items in
    let inv = c.writers.invariant in
    let k : ℕ = length c.writers.yielded in
    let next = taken k ws _ _ _ inv.rest c.in-Some.ensures.steps.0 in
    let inside = next.inside in
    let on = length_push c.writers.yielded c.in-Some.writer in
    let added = rw c.in_ok-store.ensures.handle at c.in_ok-push-2.ensures.items in
    record {
      rest = next.left _ on;
      long = (let was = inv.long in let gone = c.in-Some.ensures.steps.1 in
          let short = ap length c.in-Some.ensures.steps.0 in omega arith);
      within = omega arith;
      stores = (let was = inv.stores in let grown = ap length c.in_ok-push.ensures.items ∙ length_push _ _ in
          omega arith);
      handles = (let own = (c.requires.writers.each k c.in-Some.writer next.at).1 in
          let more = length_push c.writers.handles.items (own_of c.in-Some.writer.seat) in
          let long = ap length added in
          let was = inv.handles.all in record {
            all = omega arith;
            each = λ i h at. get-push_at (λ j x. x ≡ j) c.writers.handles.items (own_of c.in-Some.writer.seat)
                inv.handles.each (own ∙ sym was) i h (subst (λ xs. slice_get xs i ≡ Some h) added at);
          });
    }

pub returns : goal.returns
returns g c =
    let gives = c.into_iter-writer-iterator.ensures.into_iter_gives in
    let all = YieldsList-from_vec {s = c.into_iter-writer-iterator.result} c.args.writers.items
    gives.0 (gives.1 ∙ c.args.writers.ok.0) in
    let end = YieldsList-end all c.writers.yielded c.writers.writer-iterator c.writers.yielded_by
    c.next.result c.next.new.self c.in-None.is c.next.ensures.steps in
    let inv = c.writers.invariant in
    record {
      stores = inv.stores ∙ end.1;
      handles = record { all = inv.handles.all ∙ end.1 ∙ c.requires.writers.all; each = inv.handles.each };
    }
