use Rattle.std.proofs.Common.{[], ◌∷◌, ◌++◌, length, append_assoc, ap, sym, ◌∙◌, arith}
use Rattle.std.proofs.lemmas.List.{length-append, length-map, map-append}
use Rattle.snap_history.proofs.Lists.{get-push}
use Rattle.snap_restart.specs.Closed.{Rests}
use Rattle.snap_restart.proofs.{Meetings.rests_moved, Removals.all_yielded, Removals.one_fewer}
use Rattle.snap_restart.proofs.shutdown.release_all.Goals as goal

pub writers-preserved : goal.writers-preserved
writers-preserved g c =
    let inv = c.writers.invariant in
    let w = c.in-Some.writer in
    let step = c.in-Some.ensures.steps in
    let before = c.writers.yielded in
    let device = c.into_device.ensures.device ∙ ap (λ s. s.device) c.into_segment.ensures.segment in
    record {
      whole = append_assoc before (w ∷ []) _ ∙ (ap (λ z. before ++ z) (sym step.0) ∙ inv.whole);
      long = one_fewer inv.long step.0 step.1;
      devices = c.keep.ensures.items ∙ ((λ i. inv.devices i ++ device i ∷ []) ∙ sym (map-append _ before (w ∷ [])));
      room = omega (arith, inv.room, c.keep.ensures.room);
      rests = get-push (Rests g.D.Disk) c.writers.yielded w c.writers.invariant.rests (rests_moved g.D.Disk w _ _
          c.into_segment.ensures.segment c.into_device.ensures.device c.into_segment.ensures.number
          c.into_segment.ensures.value c.into_device.ensures.kept);
    }

pub returns-clause-devices : goal.returns-clause-devices
returns-clause-devices g c =
    let inv = c.writers.invariant in
    rw (all_yielded c.writers.yielded _ _ inv.whole inv.long c.in-None.ensures.steps.0) at inv.devices

pub returns-clause-rests : goal.returns-clause-rests
returns-clause-rests g c =
    let inv = c.writers.invariant in
    rw (all_yielded c.writers.yielded _ _ inv.whole inv.long c.in-None.ensures.steps.0) at inv.rests

pub keep-requires : goal.keep-requires
keep-requires g c =
    let inv = c.writers.invariant in
    let count = simp length-map at (ap length inv.devices) in
    let all = simp length-append at (ap length inv.whole) in
    omega (arith, inv.room, ap length c.in-Some.ensures.steps.0)
