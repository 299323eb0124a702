use Rattle.std.proofs.Common.{ℕ, length, ap, arith, ◌∙◌}
use Rattle.std.proofs.lemmas.Iterator.{Adapters.YieldsList-from_vec, Consumers.YieldsList-end}
use Rattle.std.proofs.lemmas.List.{length_push}
use Rattle.snap_history.proofs.Removals.{taken}
use Rattle.snap_serve.proofs.stores.open_desks.Goals as goal

pub new-desk-requires-clause-memory : goal.new-desk-requires-clause-memory
new-desk-requires-clause-memory g c =
    let ss = c.args.scanners.items in
    let k : ℕ = length c.scanners.yielded in
    let next = taken k ss _ _ _ c.scanners.invariant.rest c.in-Some.ensures.steps.0 in
    c.requires.scanners k c.in-Some.scanner next.at

pub worker-requires : goal.worker-requires
worker-requires g c =
    let ss = c.args.scanners.items in
    let k : ℕ = length c.scanners.yielded in
    let next = taken k ss _ _ _ c.scanners.invariant.rest c.in-Some.ensures.steps.0 in
    let inside = next.inside in
    let so_far = c.scanners.invariant.desks in
    let count = c.len-worker.ensures in
    let enough = c.requires.metrics in
    omega arith

pub scanners-preserved : goal.scanners-preserved
scanners-preserved g c =
    let ss = c.args.scanners.items in
    let inv = c.scanners.invariant in
    let k : ℕ = length c.scanners.yielded in
    let next = taken k ss _ _ _ inv.rest c.in-Some.ensures.steps.0 in
    let inside = next.inside in
    let on = length_push c.scanners.yielded c.in-Some.scanner in
    record {
      rest = next.left _ on;
      long = (let was = inv.long in let gone = c.in-Some.ensures.steps.1 in
          let short = ap length c.in-Some.ensures.steps.0 in omega arith);
      within = omega arith;
      desks = (let was = inv.desks in let long = ap length c.in_ok-push.ensures.items in
          let more = length_push c.scanners.desks.items c.new.result in omega arith);
    }

pub returns : goal.returns
returns g c =
    let gives = c.into_iter-scanner-iterator.ensures.into_iter_gives in
    let all = YieldsList-from_vec {s = c.into_iter-scanner-iterator.result} c.args.scanners.items
    gives.0 (gives.1 ∙ c.args.scanners.ok.0) in
    let end = YieldsList-end all c.scanners.yielded c.scanners.scanner-iterator c.scanners.yielded_by
    c.next.result c.next.new.self c.in-None.is c.next.ensures.steps in
    c.scanners.invariant.desks ∙ end.1
