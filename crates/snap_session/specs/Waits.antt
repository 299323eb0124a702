-- The event that a session needs next.
use Rattle.std.specs.Prelude.{◌≡◌, ◌<◌, None, [], length}
use Rattle.snap_frame.specs.Stream.{IsPartial}
use Rattle.snap_session.specs.declared.session.WaitingFor.TheVariants.{Bytes, Turn, Outcome}
use Rattle.snap_session.specs.{declared.session.WaitingFor.WaitingFor, Talk.Talk, Talk.longest_frame}

-- It needs bytes if no whole frame is held: it holds fewer bytes than a frame may have. It needs another call if it is
-- over or bytes are owed. It needs an outcome only if `may` holds and a request is handed over; in the other two cases
-- none is.
abbrev pub WaitsFor : Type 0 → WaitingFor → Talk → Type 0
WaitsFor may Bytes t = (t.over ≡ None) × (t.asked ≡ None) × IsPartial t.held × (length t.held < longest_frame)
WaitsFor may Turn t = (t.asked ≡ None) × (t.over ≡ None → t.owed ≡ [] → ⊥)
WaitsFor may Outcome t = may × (t.over ≡ None) × (t.asked ≡ None → ⊥)
