use Rattle.std.proofs.Common.{ℕ, length, ap, arith, ◌∙◌, refl, sym}
use Rattle.std.proofs.lemmas.List.{length_push, map-id}
use Rattle.std.proofs.lemmas.Iterator.{Adapters.YieldsList-from_vec, Consumers.YieldsList-end}
use Rattle.snap_history.proofs.Removals.{taken}
use Rattle.snap_service.proofs.metrics.timed_disk.time_all.Goals as goal

pub segment-segment-requires : goal.segment-segment-requires
segment-segment-requires g c =
    let ds = c.args.devices.items in
    let k : ℕ = length c.devices.yielded in
    let next = taken k ds _ _ _ c.devices.invariant.rest c.in-Some.ensures.steps.0 in
    let inside = next.inside in
    let count = c.len.ensures in
    let so_far = ap length c.devices.invariant.timed in
    let enough = c.requires in
    omega arith

pub push_reserved-requires : goal.push_reserved-requires
push_reserved-requires g c =
    let next = taken (length c.devices.yielded) c.args.devices.items _ _ _ c.devices.invariant.rest
    c.in-Some.ensures.steps.0 in
    omega (arith, next.inside, c.devices.invariant.room, ap length c.devices.invariant.timed, c.devices.timed.ok.0)

pub devices-preserved : goal.devices-preserved
devices-preserved g c =
    let ds = c.args.devices.items in
    let inv = c.devices.invariant in
    let k : ℕ = length c.devices.yielded in
    let next = taken k ds _ _ _ inv.rest c.in-Some.ensures.steps.0 in
    let inside = next.inside in
    let on = length_push c.devices.yielded c.in-Some.device in
    record {
      rest = next.left _ on;
      long = (let was = inv.long in let gone = c.in-Some.ensures.steps.1 in
          let short = ap length c.in-Some.ensures.steps.0 in omega arith);
      within = omega arith;
      room = omega (arith, inv.room, c.push_reserved.ensures.capacity);
      timed = rw (c.push_reserved.ensures.items, inv.timed, c.new.ensures) refl;
    }

pub returns : goal.returns
returns g c =
    let gives = c.into_iter-device-iterator.ensures.into_iter_gives in
    let all = YieldsList-from_vec {s = c.into_iter-device-iterator.result} c.args.devices.items
    gives.0 (gives.1 ∙ c.args.devices.ok.0) in
    let end = YieldsList-end all c.devices.yielded c.devices.device-iterator c.devices.yielded_by
    c.next.result c.next.new.self c.in-None.is c.next.ensures.steps in
    c.devices.invariant.timed ∙ (sym (map-id c.devices.yielded) ∙ end.0)
