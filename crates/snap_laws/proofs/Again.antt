-- The premises of a next start, after the first writers have ended at rest.
use Rattle.std.proofs.Common.{◌≡◌, ℕ, ◌<◌, List, length, map, get_or, All, sym, ◌∙◌, arith}
use Rattle.std.proofs.lemmas.List.{length-map}
use Rattle.std.proofs.lemmas.Option.{slice_get_within, slice_get-get_or, get_or_from_slice_get}
use Rattle.snap_history.{specs.History.Update, specs.Pairs.Pairs, proofs.Pairs.element}
use Rattle.snap_register.specs.{declared.plan.Plan.Plan, History.starts, Seat.Known}
use Rattle.snap_writer.specs.{Writer.WriterState, Life.resting}
use Rattle.snap_restart.proofs.Crash.{its_segment, its_device, opened_on, unmap}
use Rattle.snap_restart.specs.{Closed.IsHistory, Opened.IsOpened, Crash.AreOpened, Crash.AnyCut}
use Rattle.snap_restart.proofs.{LifeStarts.bytes_left, Removals.get_map}
use Rattle.snap_laws.{specs.Again.AreOfOne, specs.Again.GoOnBehind, proofs.Openings.at_rest_recovers}
use Rattle.snap_disk.specs.declared.disk.Disk as Disk

module _ {D : Type 0} (disk : Disk.Ghosts D) where
  pub go_on_behind : (plan : Plan) (h : List Update) (firsts : List (WriterState D)) (scanners : List Known)
      (seconds : List (WriterState D)) → AreOfOne disk plan firsts → IsHistory h firsts scanners
      → AnyCut disk h firsts scanners
      → Pairs (IsOpened disk (length (map its_device firsts))) (map its_device firsts) (map its_segment seconds)
      → AreOpened disk (map its_device firsts) seconds → GoOnBehind disk firsts scanners seconds
  go_on_behind plan h firsts scanners seconds are history cut were opened hon =
      let devices = map its_device firsts in
      let places = map resting firsts in
      let files = map (λ (d : D). (disk.device d).bytes) devices in
      let now = bytes_left disk devices in
      let r = at_rest_recovers disk plan h firsts scanners are history cut files (record {
        size = now.size;
        each = λ i d b ed eb.
            let w = element seconds i (omega (arith, slice_get_within devices i d ed, opened.one_each)) in
            let was = (were.each i d w.0.segment ed (get_map its_segment seconds i w.0 w.1)).back in
            (was.honest_then (hon i w.0 w.1), now.each i d b ed eb);
      }) in
      let size : length places ≡ length devices =
      length-map firsts resting ∙ sym (length-map firsts its_device) in (
        plan,
        opened.plan,
        r.visible,
        are,
        r.all_visible,
        opened.again (starts plan) r.visible places (rw size at r.recovered) hon,
      )

  -- an opening that succeeds leaves the devices' failure counts unchanged
  pub still_headroom : (most : ℕ) (devices : List D) (writers : List (WriterState D))
      → Pairs (IsOpened disk (length devices)) devices (map its_segment writers)
      → All (λ (d : D). disk.failure_count d < most) devices
      → All (λ (d : D). disk.failure_count d < most) (map its_device writers)
  still_headroom most devices writers were few k d low =
      let here = get_or (map its_device writers) k d in
      let w = unmap its_device writers k here (slice_get-get_or (map its_device writers) k d low) in
      let old = opened_on disk devices writers were k w.0 w.1 in
      let was = few k old.0 (slice_get_within devices k old.0 old.1) in
      rw (← w.2, old.2.failures_same) (rw (get_or_from_slice_get devices k old.0 old.0 old.1) at was)
