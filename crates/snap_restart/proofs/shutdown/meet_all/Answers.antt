use Rattle.std.proofs.Common.{rules, ◌≡◌, length, Some, slice_get, refl}
use Rattle.std.proofs.lemmas.Option.{slice_get_read}
use Rattle.snap_memory.proofs.Collects.{grows_more}
use Rattle.snap_writer.specs.Writer.{WriterState}
use Rattle.snap_restart.proofs.{Meetings.together_grown, Meetings.told_step, Meetings.met_more, Pairs.partner_of}
use Rattle.snap_restart.{proofs.Pairs.pairs_moved, specs.Closed.HasMet, proofs.shutdown.meet_all.Goals.After-index_mut}
use Rattle.snap_restart.proofs.shutdown.meet_all.Goals as goal

at : (g : _) (c : After-index_mut g) → slice_get c.loop-i.writers.items c.loop-i.i ≡ Some c.index_mut.result.now
at g c = slice_get_read _ (length c.loop-i.writers.items) _ _ refl (search rules) (search rules)

-- the writer to be met next: at first, and now
next : (g : _) (c : After-index_mut g) → (w : WriterState g.row.D.Denot)
    × (slice_get c.args.writers.now.items c.loop-i.i ≡ Some w) × HasMet w c.index_mut.result.now
next g c = partner_of (λ _. HasMet) _ _ _ _ c.loop-i.invariant.writers (at g c)

pub meet-requires : goal.meet-requires
meet-requires g c =
    let w = next g (goal.at.meet-requires g c).After-index_mut in
    record {
      together = together_grown c.args.scanner.now w.0.seat c.loop-i.scanner c.index_mut.result.now.seat
          (c.requires.together c.loop-i.i w.0 w.1) c.loop-i.invariant.scanner w.2.grows;
    }

pub loop-i-preserved : goal.loop-i-preserved
loop-i-preserved g c =
    let inv = c.loop-i.invariant in
    let now = (goal.at.loop-i-preserved g c).After-index_mut in
    let w = next g now in
    let met : HasMet c.index_mut.result.now c.meet.new.self =
    record { segment_is = c.meet.ensures.segment; grows = c.meet.ensures.writer.grows } in
    let grows = c.meet.ensures.scanner.grows in
    record {
      writers = pairs_moved HasMet met_more _ _ _ _ _ (at g now) met inv.writers;
      scanner = grows_more _ _ _ inv.scanner grows;
      told = told_step _ _ w.0 _ _ _ _ w.1 inv.told inv.scanner grows (met_more w.0 _ _ w.2 met).grows
          c.meet.ensures.met;
    }
