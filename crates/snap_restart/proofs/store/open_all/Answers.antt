use Rattle.std.proofs.Common.{rules, ◌≡◌, ◌++◌, List, length, map, ap, sym, ◌∙◌, arith}
use Rattle.std.proofs.lemmas.{Simd.map-map, Grind.common_steps}
use Rattle.snap_disk.specs.declared.refusal.Refusal.TheVariants.{NoMemory}
use Rattle.snap_segment.specs.Segment.{SegmentState}
use Rattle.snap_restart.proofs.NewSeats.{unfenced_are, starts_are, fresh_are, back_are, paired_are}
use Rattle.snap_restart.proofs.Crash.{opened, stay_kept, backs_opened, backs_stopped}
use Rattle.snap_restart.{proofs.Refusals.stopped_last, proofs.LifeDurability.stay_stored}
use Rattle.snap_restart.proofs.store.open_all.Goals as goal

pub place_writers-requires-clause-starts : goal.place_writers-requires-clause-starts
place_writers-requires-clause-starts g c =
    let had = c.in-Ok-take_memory.ensures in
    starts_are had.seats.0 had.seats.1 c.in-Ok.opened.0.items _ had.seats.2 had.seats.3 had.counts.0
    (unfenced_are g.D.Disk _ _ _ c.in-Ok.ensures.opened)

pub returns-in-Ok-take_memory-clause-opened : goal.returns-in-Ok-take_memory-clause-opened
returns-in-Ok-take_memory-clause-opened g c = rw c.place_writers.ensures.segments c.in-Ok.ensures.opened

pub returns-in-Ok-take_memory-clause-starts : goal.returns-in-Ok-take_memory-clause-starts
returns-in-Ok-take_memory-clause-starts g c =
    let had = c.in-Ok-take_memory.ensures in
    paired_are had.seats.0 had.seats.1 _ _ had.seats.2 had.seats.3 had.counts.0
    (unfenced_are g.D.Disk _ _ _ c.in-Ok.ensures.opened) c.place_scanners.result.items _
    c.place_writers.ensures.seats c.place_writers.ensures.segments

pub returns-in-Ok-take_memory-clause-fresh : goal.returns-in-Ok-take_memory-clause-fresh
returns-in-Ok-take_memory-clause-fresh g c =
    let had = c.in-Ok-take_memory.ensures in
    rw c.place_scanners.ensures (fresh_are had.seats.0 had.seats.1 c.in-Ok.opened.0.items _ had.seats.2 had.seats.3
    had.counts.0 (unfenced_are g.D.Disk _ _ _ c.in-Ok.ensures.opened) _ c.place_writers.result.items
    c.place_writers.ensures.seats had.seats.4)

pub returns-in-Ok-take_memory-clause-back : goal.returns-in-Ok-take_memory-clause-back
returns-in-Ok-take_memory-clause-back g c =
    let had = c.in-Ok-take_memory.ensures in
    let size = c.in-Ok.ensures.opened.size in
    rw c.place_scanners.ensures (back_are had.seats.0 had.seats.1 c.in-Ok.opened.0.items _ had.seats.2 had.seats.3
    had.counts.0 (unfenced_are g.D.Disk _ _ _ c.in-Ok.ensures.opened) _ c.place_writers.result.items
    c.place_writers.ensures.seats (omega arith) (omega arith) (omega (arith, had.counts.1)) had.seats.4)

pub returns-in-Ok-take_memory-clause-crash : goal.returns-in-Ok-take_memory-clause-crash
returns-in-Ok-take_memory-clause-crash g c =
    opened g.D.Disk _ _ _ (returns-in-Ok-take_memory-clause-fresh g c) (returns-in-Ok-take_memory-clause-opened g c)
    (returns-in-Ok-take_memory-clause-starts g c) (returns-in-Ok-take_memory-clause-back g c)

pub returns-in-Ok-take_memory-clause-stays : goal.returns-in-Ok-take_memory-clause-stays
returns-in-Ok-take_memory-clause-stays g c =
    stay_stored g.D.Disk g.met.D.Disk.only_now _ _ (returns-in-Ok-take_memory-clause-crash g c)

pub returns-in-Ok-take_memory-clause-kept_ok : goal.returns-in-Ok-take_memory-clause-kept_ok
returns-in-Ok-take_memory-clause-kept_ok g c =
    stay_kept g.D.Disk _ _ (backs_opened g.D.Disk _ _ (returns-in-Ok-take_memory-clause-opened g c))

pub returns-in-Err-clause-kept_err : goal.returns-in-Err-clause-kept_err
returns-in-Err-clause-kept_err g c = stay_kept g.D.Disk _ _ (backs_stopped g.D.Disk _ _ _ _ c.in-Err.ensures.stopped)

pub returns-in-Ok-take_memory-clause-report : goal.returns-in-Ok-take_memory-clause-report
returns-in-Ok-take_memory-clause-report g c = grind (arith, map-map)

pub returns-in-Err-take_memory-clause-stopped : goal.returns-in-Err-take_memory-clause-stopped
returns-in-Err-take_memory-clause-stopped g c =
    let ss : List (SegmentState _) = c.in-Ok.opened.0.items in
    let opened = c.in-Ok.ensures.opened in
    let count : c.len-count.result ≡ length ss = search rules in
    let news = c.release.ensures.items
    ∙ ap (λ l. l ++ map (λ (s : SegmentState _). s.device) ss) c.in-Ok.ensures.emptied.0 in
    rw (count ∙ sym opened.size) (stopped_last g.D.Disk c.args.devices.items c.release.new.devices.items ss opened news)

pub returns-in-Err-take_memory-clause-kept_err : goal.returns-in-Err-take_memory-clause-kept_err
returns-in-Err-take_memory-clause-kept_err g c =
    stay_kept g.D.Disk _ _ (backs_stopped g.D.Disk _ _ NoMemory _ (returns-in-Err-take_memory-clause-stopped g c))

pub release-requires : goal.release-requires
release-requires g c = grind (arith, common_steps)

pub returns-in-Ok-take_memory-clause-scanners : goal.returns-in-Ok-take_memory-clause-scanners
returns-in-Ok-take_memory-clause-scanners g c = grind (arith, common_steps)
