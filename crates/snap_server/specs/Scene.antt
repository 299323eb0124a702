-- A session between two rounds.
use Rattle.std.specs.Prelude.{None}
use Rattle.snap_session.specs.{Talk.Talk, Turns.Scene}

-- A service and a session on it. Nothing is known of the bytes on the session's socket.
abbrev pub scene : {S : Type 0} → S → Talk → Scene S
scene s t = record { service = s; talk = t; left = None; written = None }
