-- Sessions that share a service.
use Rattle.std.specs.Prelude.{◌≡◌, ℕ, Some, None}
use Rattle.slab.specs.Slab.{Slab, get}
use Rattle.snap_frame.specs.declared.{request.Request.Request, reply.Reply.Reply}
use Rattle.snap_session.specs.Talk.{Talk, Stays, Moves, start}
use Rattle.snap_session.specs.Turns.{Turns}
use Rattle.snap_server.specs.declared.connection.Connection.{Connection}

module _ {S : Type 0} (gives : S → Request → Reply → S → Type 0) where
  -- only this session was polled, while the service changed from s to t
  abbrev pub IsTurn : S → S → Talk → Talk → Type 0
  IsTurn s t old new = Turns Stays gives s t old None None None None new

  -- a session from its start, while the service changed from s to t, with other sessions' requests answered between its
  -- own
  abbrev pub IsSession : S → S → Talk → Type 0
  IsSession s t talk = Turns (Moves gives) gives s t start None None None None talk

  -- The service is in state t, and each connection is a session from its start. All begin after one state, `first`, of
  -- the service.
  pub record AreSessions (t : S) (connections : Slab Connection) : Type 0 where
    pub first : S
    pub moves : Moves gives first t
    pub each : (key : ℕ) → (c : Connection) → get connections key ≡ Some c → IsSession first t c.session

-- the connections of a worker, as sessions on its service, are sessions on the inner service
abbrev pub InnerLaw : {S T : Type 0} → (S → T) → (S → Request → Reply → S → Type 0)
    → (T → Request → Reply → T → Type 0) → Type 0
InnerLaw {S} inner outer gives = (t : S) (connections : Slab Connection)
    → AreSessions outer t connections → AreSessions gives (inner t) connections
