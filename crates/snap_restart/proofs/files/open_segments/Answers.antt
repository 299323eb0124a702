use Rattle.std.proofs.Common.{rules, ◌≡◌, ℕ, suc, ◌+◌, length, take, ap, ◌∙◌, arith}
use Rattle.std.proofs.lemmas.{List.length_push, List.length-take-le, Grind.common_steps}
use Rattle.snap_history.proofs.Removals.{taken, all_taken}
use Rattle.snap_register.proofs.Pairs.{Pairs-push}
use Rattle.snap_restart.{specs.Opened.IsOpened, proofs.Removals.one_fewer, proofs.Removals.none_comes}
use Rattle.snap_restart.proofs.Refusals.{back_later, returned_here, stopped_at}
use Rattle.snap_restart.proofs.files.open_segments.Goals as goal

pub open-requires-clause-headroom : goal.open-requires-clause-headroom
open-requires-clause-headroom g c = grind arith

pub opening-preserved : goal.opening-preserved
opening-preserved g c =
    let ds = c.args.devices.items in
    let inv = c.opening.invariant in
    let ss = c.opening.segments.items in
    let k : ℕ = length ss in
    let d = c.in-Some.device in
    let s = c.in-Ok-open.segment in
    let o = c.in-Ok-open.ensures in
    let next = taken k ds d _ _ inv.rest c.in-Some.ensures.cases.0 in
    let low = next.inside in
    let index : c.len-index.result ≡ k = search rules in
    let Opened = IsOpened g.D.Disk in
    let here : Opened c.len-count.result c.len-index.result d s = record {
      index_is = o.opened.0;
      count_is = o.opened.1;
      unfenced = o.opened.2;
      failures_same = o.count_ok;
      calls = o.calls_ok;
      found = o.holds;
      rests = o.at_rest;
      back = back_later g.D.Disk g.met.D.Disk.counts_now d s.device o.honest_ok o.any_time_ok;
    } in
    let long : length (take k ds) ≡ k = length-take-le k ds (omega arith) in
    let more = Pairs-push (Opened (length ds)) (take k ds) ss d s inv.opened (rw (long, ← index, ← inv.count) here) in
    let count : length c.keep.new.items.items ≡ k + 1 = ap length c.keep.ensures.items ∙ length_push ss s in
    record {
      rest = next.left _ count;
      long = one_fewer inv.long c.in-Some.ensures.cases.0 c.in-Some.ensures.cases.1;
      opened = rw (next.front _ count, c.keep.ensures.items) more;
      left = omega (arith, inv.left, count, c.in-Some.ensures.cases.1);
      headroom = λ i x low. (rw c.in-Some.ensures.cases.0 at inv.headroom) (suc i) x (omega arith);
      count = inv.count;
      room = omega (arith, inv.room, c.keep.ensures.room);
      emptied = inv.emptied;
      space = inv.space;
    }

pub returns-in-Err-clause-stopped : goal.returns-in-Err-clause-stopped
returns-in-Err-clause-stopped g c =
    let ds = c.args.devices.items in
    let inv = c.opening.invariant in
    let ss = c.opening.segments.items in
    let k : ℕ = length ss in
    let d = c.in-Some.device in
    let e = c.in-Err.device in
    let why = c.in-Err.refusal in
    let o = c.in-Err.ensures in
    let next = taken k ds d _ _ inv.rest c.in-Some.ensures.cases.0 in
    let low = next.inside in
    let index : c.len-index.result ≡ k = search rules in
    let back = back_later g.D.Disk g.met.D.Disk.counts_now d e o.honest_err o.any_time_err in
    let here = returned_here g.D.Disk c.len-count.result c.len-index.result why d e back o.count_err o.refused in
    stopped_at g.D.Disk g.met.D.Disk.only_now why ds c.returned.result.items ss d e _ c.len-index.result index
    (rw index next.head) (omega arith) (rw index inv.opened) o.refusals (rw (← inv.count) here) c.returned.ensures

pub returns-clause-opened : goal.returns-clause-opened
returns-clause-opened g c = grind (arith, all_taken, none_comes)

pub keep-requires : goal.keep-requires
keep-requires g c = grind (arith, common_steps)

pub opening-init : goal.opening-init
opening-init g c = grind (arith, common_steps)
