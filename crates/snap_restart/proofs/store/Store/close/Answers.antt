use Rattle.std.proofs.Common.{sym, ◌∙◌}
use Rattle.snap_writer.specs.Writer.{WriterState}
use Rattle.snap_restart.specs.Closed.{HasMet}
use Rattle.snap_restart.proofs.{Pairs.pairs_mapped, Meetings.holds_after, Crash.any_cut}
use Rattle.snap_restart.proofs.store.Store.close.Goals as goal

pub returns-clause-devices : goal.returns-clause-devices
returns-clause-devices g c = c.release_all.ensures.devices ∙ sym (pairs_mapped HasMet
    (λ (w : WriterState g.row.D.Denot). w.segment.device) (λ a b m. rw m.segment_is) _ _ c.hear_everybody.ensures.met)

pub returns-clause-history : goal.returns-clause-history
returns-clause-history g c =
    let history = c.hear_everybody.ensures.history in
    let holds = holds_after g.D.Disk history.0 _ _ _ c.requires.back history.1 c.hear_everybody.ensures.met
    c.release_all.ensures.rests in (history.0, history.1, holds)

pub returns-clause-crash : goal.returns-clause-crash
returns-clause-crash g c =
    let history = c.hear_everybody.ensures.history in
    (history.0, history.1, any_cut g.D.Disk history.0 _ _ c.requires.back history.1)
