use Rattle.std.proofs.Common.{◌≡◌, [], ◌∷◌, ◌++◌, map, refl, ap, ◌∙◌, arith}
use Rattle.std.proofs.lemmas.{Bool.iff_false, Grind.common_steps, List.length-set, List.map-append}
use Rattle.snap_scan.proofs.Sets.{list_named, list_unnamed, named_low}
use Rattle.snap_scan.specs.{Sets.named_below, Values.pair_of}
use Rattle.snap_memory.{specs.ScanCaches.IsEntry, proofs.Kept.kept_of, proofs.Kept.kept_in}
use Rattle.snap_memory.{proofs.ScanAnswer.entries_short}
use Rattle.snap_memory.proofs.scan_cache.list.Goals.{then-has+in_ok-entry+in_ok-push, else-has}
use Rattle.snap_memory.proofs.scan_cache.list.Goals as goal

pub loop-i-init : goal.loop-i-init
unfolding named_below
loop-i-init g c = record {
  same = refl;
  set = refl;
  found = refl;
  cache = refl;
  kept = c.requires.kept;
  entries = rw c.in_ok-values.ensures.items (record { count = refl; each = λ p i at. absurd (cc at) });
}

-- a named segment exists
pub index_mut-requires : goal.index_mut-requires
index_mut-requires g c =
    let lt = named_low c.args.set.bits _ c.loop-i.i c.requires.set (c.has.ensures.names.0 c.if-has.true) in
    omega (arith, lt, c.loop-i.invariant.cache, c.requires.cache)

pub take_entry-requires-clause-segment : goal.take_entry-requires-clause-segment
take_entry-requires-clause-segment g c =
    rw c.loop-i.invariant.same (named_low c.args.set.bits _ c.loop-i.i c.requires.set
    (c.has.ensures.names.0 c.if-has.true))

pub take_entry-requires-clause-found : goal.take_entry-requires-clause-found
take_entry-requires-clause-found g c =
    let names = c.has.ensures.names.0 c.if-has.true in
    let lt = named_low c.args.set.bits _ c.loop-i.i c.requires.set names in
    rw c.loop-i.invariant.same (c.requires.found c.loop-i.i lt names)

-- the segment's cached entry was seen
pub take_entry-requires-clause-kept : goal.take_entry-requires-clause-kept
take_entry-requires-clause-kept g c =
    let inv = c.loop-i.invariant in
    kept_of (g.L.Looker.known c.args.seat.now) (g.L.Looker.known c.loop-i.seat) _ _ _ _ inv.cache c.requires.cache
    refl (named_low c.args.set.bits _ c.loop-i.i c.requires.set (c.has.ensures.names.0 c.if-has.true))
    c.index_mut.result.now inv.same inv.kept c.index_mut.ensures.value

-- the entry cached in its stead was seen
pub returns-in_err-entry-clause-kept : goal.returns-in_err-entry-clause-kept
returns-in_err-entry-clause-kept g c =
    let inv = c.loop-i.invariant in
    kept_in (g.L.Looker.known c.args.seat.now) (g.L.Looker.known c.loop-i.seat) _ _ _ _ inv.cache c.requires.cache
    refl (named_low c.args.set.bits _ c.loop-i.i c.requires.set (c.has.ensures.names.0 c.if-has.true))
    c.take_entry.new.kept inv.same inv.kept c.take_entry.ensures.kept

pub returns-in_err-push-clause-kept : goal.returns-in_err-push-clause-kept
returns-in_err-push-clause-kept g c =
    let inv = c.loop-i.invariant in
    kept_in (g.L.Looker.known c.args.seat.now) (g.L.Looker.known c.loop-i.seat) _ _ _ _ inv.cache c.requires.cache
    refl (named_low c.args.set.bits _ c.loop-i.i c.requires.set (c.has.ensures.names.0 c.if-has.true))
    c.take_entry.new.kept inv.same inv.kept c.take_entry.ensures.kept

pub loop-i-preserved : goal.loop-i-preserved
loop-i-preserved g c =
    let inv = c.loop-i.invariant in
    let a = g.L.Looker.known c.args.seat.now in
    let before = map pair_of c.loop-i.values.items in
    elim c.if-has.branch [
      | then-has+in_ok-entry+in_ok-push w ↦ (
          let entry = rw inv.same at w.in_ok-entry.ensures.entry in
          let listed = list_named (IsEntry a c.args.found) c.args.set.bits c.loop-i.i before
          (c.has.ensures.names.0 w.if-has.true)
          (pair_of w.in_ok-entry.entry) entry (inv.entries.count, inv.entries.each) in
          let values : map pair_of w.push.new.self.items ≡ before ++ pair_of w.in_ok-entry.entry ∷ [] =
          ap (map pair_of) w.in_ok-push.ensures.items ∙ map-append pair_of c.loop-i.values.items
          (w.in_ok-entry.entry ∷ []) in
          rw w.seat-is (rw w.cache-is (rw w.values-is (record {
            same = w.take_entry.ensures.same ∙ inv.same;
            set = refl;
            found = refl;
            cache = length-set c.loop-i.cache.items c.loop-i.i w.take_entry.new.kept ∙ inv.cache;
            kept = kept_in a (g.L.Looker.known c.loop-i.seat) _ _ _ _ inv.cache c.requires.cache
                refl (named_low c.args.set.bits _ c.loop-i.i c.requires.set (c.has.ensures.names.0 w.if-has.true))
                w.take_entry.new.kept inv.same inv.kept
                w.take_entry.ensures.kept;
            entries = rw values (record { count = listed.0; each = listed.1 });
          }))))
      | else-has w ↦ (
          let listed = list_unnamed (IsEntry a c.args.found) c.args.set.bits c.loop-i.i before
          (iff_false c.has.ensures.names w.if-has.false) (inv.entries.count, inv.entries.each) in
          rw w.seat-is (rw w.cache-is (rw w.values-is (record {
            same = inv.same;
            set = refl;
            found = refl;
            cache = inv.cache;
            kept = inv.kept;
            entries = record { count = listed.0; each = listed.1 };
          }))))
    ]

pub returns : goal.returns
returns g c =
    let a = g.L.Looker.known c.args.seat.now in
    let inv = c.loop-i.invariant in
    let is : c.loop-i.i ≡ 16 = omega (arith, c.loop-i-test.false, c.loop-i.auto.i-end) in
    let entries = rw is at inv.entries in
    record {
      entries = entries;
      short = entries_short c.args.set.bits a a c.args.found c.loop-i.values.items entries;
      cache = inv.cache;
      kept = inv.kept;
      same = inv.same;
    }

pub returns-in_err-entry-clause-cache : goal.returns-in_err-entry-clause-cache
returns-in_err-entry-clause-cache g c = grind (arith, common_steps)

pub returns-in_err-push-clause-cache : goal.returns-in_err-push-clause-cache
returns-in_err-push-clause-cache g c = grind (arith, common_steps)
