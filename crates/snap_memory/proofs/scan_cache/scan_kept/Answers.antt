use Rattle.std.proofs.lemmas.Result.{IfOk-weaker}
use Rattle.std.proofs.Common.{◌^◌, ◌<◌, map, refl, sym, subst, arith}
use Rattle.snap_register.specs.{Seat.Known, Rule.segments, declared.view.View.TheVariants.Borrowed}
use Rattle.snap_scan.{specs.Values.pair_of, proofs.Sets.names_below}
use Rattle.snap_memory.proofs.{ScanAnswer.list_clean, ScanAnswer.list_borrowed, ScanAnswer.view_seen, Kept.kept_grown}
use Rattle.snap_memory.specs.Scans.{IsScan}
use Rattle.snap_memory.proofs.scan_cache.scan_kept.Goals as goal

pub list-requires-clause-found : goal.list-requires-clause-found
list-requires-clause-found g c = λ i l named. (
  names_below c.args.set.bits 16 (omega arith) (omega (arith, c.gather.auto.set)) i named,
  c.gather.ensures.numbers c.in-Collected.is i l named,
)

pub list-requires-clause-kept : goal.list-requires-clause-kept
list-requires-clause-kept g c = kept_grown (g.L.Looker.known c.args.seat.now) (g.L.Looker.known c.gather.new.seat)
    c.args.cache.now.items c.gather.ensures.seen c.requires.kept

pub returns-in_err-view-in-Borrowed-clause-kept : goal.returns-in_err-view-in-Borrowed-clause-kept
returns-in_err-view-in-Borrowed-clause-kept g c =
    kept_grown (g.L.Looker.known c.args.seat.now) (g.L.Looker.known c.gather.new.seat)
    c.args.cache.now.items c.gather.ensures.seen c.requires.kept

pub list-requires-in-Borrowed-clause-found : goal.list-requires-in-Borrowed-clause-found
list-requires-in-Borrowed-clause-found g c = λ i l named.
    let b = g.L.Looker.known c.gather.new.seat in
    let seen = c.view.ensures.view in
    let low = rw c.view.ensures.same at l in (
      omega (arith, low, seen.memory.size),
      rw c.view.ensures.same (view_seen b c.in-Borrowed.segment c.args.set.bits c.view.new.out i seen low named),
    )

pub list-requires-in-Borrowed-clause-kept : goal.list-requires-in-Borrowed-clause-kept
list-requires-in-Borrowed-clause-kept g c =
    rw c.view.ensures.same
    (kept_grown (g.L.Looker.known c.args.seat.now) (g.L.Looker.known c.gather.new.seat)
    c.args.cache.now.items c.gather.ensures.seen c.requires.kept)

pub returns-in-Collected-clause-part : goal.returns-in-Collected-clause-part
returns-in-Collected-clause-part g c =
    let a = g.L.Looker.known c.args.seat.now in
    let b = g.L.Looker.known c.gather.new.seat in
    let set = c.args.set.bits in
    rw c.list.ensures.same
    (IfOk-weaker c.list.result _ _ (λ values e. list_clean set a b _ (map pair_of values.items)
    (rw c.gather.ensures.seen.plan c.requires.set.among) (rw c.in-Collected.is at c.gather.ensures.scan) e
    (λ i l named. c.gather.ensures.numbers c.in-Collected.is i l named)) c.list.ensures.entries)

pub returns-in_ok-view-in-Borrowed-clause-part : goal.returns-in_ok-view-in-Borrowed-clause-part
returns-in_ok-view-in-Borrowed-clause-part g c =
    let a = g.L.Looker.known c.args.seat.now in
    let b = g.L.Looker.known c.gather.new.seat in
    let d = g.L.Looker.known c.view.new.self in
    let set = c.args.set.bits in
    let scan = subst (λ (z : Known). IsScan set a z (Borrowed c.in-Borrowed.segment))
    (sym c.view.ensures.same) (rw c.in-Borrowed.is at c.gather.ensures.scan) in
    let view = rw (← c.view.ensures.same) at c.view.ensures.view in
    let among : set < 2 ^ segments d.plan = rw (c.view.ensures.same, c.gather.ensures.seen.plan) c.requires.set.among in
    rw c.list-in-Borrowed.ensures.same
    (IfOk-weaker c.list-in-Borrowed.result _ _ (λ values e. list_borrowed set a d c.in-Borrowed.segment
    c.view.new.out _ (map pair_of values.items) among scan view e (λ i. refl)) c.list-in-Borrowed.ensures.entries)

pub returns-in-Collected-clause-kept : goal.returns-in-Collected-clause-kept
returns-in-Collected-clause-kept g c = rw c.list.ensures.same c.list.ensures.kept

pub returns-in_ok-view-in-Borrowed-clause-kept : goal.returns-in_ok-view-in-Borrowed-clause-kept
returns-in_ok-view-in-Borrowed-clause-kept g c = rw c.list-in-Borrowed.ensures.same c.list-in-Borrowed.ensures.kept
