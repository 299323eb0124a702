use Rattle.std.proofs.Common.{rules, ◌≡◌, length, Some, slice_get, refl}
use Rattle.std.proofs.lemmas.Option.{slice_get_read}
use Rattle.snap_register.specs.Seat.{Known, Grows}
use Rattle.snap_memory.proofs.Collects.{grows_more}
use Rattle.snap_restart.proofs.{Pairs.partner_of, Pairs.pairs_moved, Meetings.together_grown, Meetings.heard_step}
use Rattle.snap_restart.proofs.{Meetings.met_more, shutdown.hear_all.Goals.After-index_mut}
use Rattle.snap_restart.proofs.shutdown.hear_all.Goals as goal

at : (g : _) (c : After-index_mut g) → slice_get c.loop-k.scanners.items c.loop-k.k ≡ Some c.index_mut.result.now
at g c = slice_get_read _ (length c.loop-k.scanners.items) _ _ refl (search rules) (search rules)

-- the scanner to be met next: at first, and now
next : (g : _) (c : After-index_mut g) → (b : Known)
    × (slice_get c.args.scanners.now.items c.loop-k.k ≡ Some b) × Grows b c.index_mut.result.now
next g c = partner_of (λ _. Grows) _ _ _ _ c.loop-k.invariant.scanners (at g c)

pub meet-requires : goal.meet-requires
meet-requires g c =
    let b = next g (goal.at.meet-requires g c).After-index_mut in
    record {
      together = together_grown b.0 c.args.writer.now.seat c.index_mut.result.now c.loop-k.writer.seat
          (c.requires.together c.loop-k.k b.0 b.1) b.2 c.loop-k.invariant.writer.grows;
    }

pub loop-k-preserved : goal.loop-k-preserved
loop-k-preserved g c =
    let inv = c.loop-k.invariant in
    let now = (goal.at.loop-k-preserved g c).After-index_mut in
    let b = next g now in
    let grows = c.meet.ensures.scanner.grows in
    record {
      writer = met_more _ _ _ inv.writer
          (record { segment_is = c.meet.ensures.segment; grows = c.meet.ensures.writer.grows });
      scanners = pairs_moved Grows grows_more _ _ _ _ _ (at g now) grows inv.scanners;
      heard = heard_step _ _ b.0 _ _ _ b.1 inv.heard (grows_more b.0 _ _ b.2 grows) c.meet.ensures.writer.grows
          c.meet.ensures.met;
    }
