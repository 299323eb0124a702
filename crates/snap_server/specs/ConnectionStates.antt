-- The state of a connection after a poll, and how it may be closed.
use Rattle.std.specs.Prelude.{◌≡◌, ◌⊎◌, [], None}
use Rattle.snap_session.specs.declared.turns.Polled.TheVariants.{NeedsInput, NeedsRoom, NeedsOutcome}
use Rattle.snap_session.specs.{Talk.Talk, Turns.StandsAt, Turns.EndsAt}
use Rattle.snap_server.specs.declared.connection.CloseReason.TheVariants.{Session, Lost, Silent, Stopped}
use Rattle.snap_server.specs.declared.connection.{Connection.Connection, Closed.Closed, CloseReason.CloseReason}
use Rattle.snap_server.specs.declared.connection.ConnectionState.TheVariants.{Over}

-- nothing can be done before an event of the socket, or before the outcome arrives
abbrev pub Waits : Talk → Type 0
Waits t = StandsAt NeedsInput t None ⊎ (StandsAt NeedsRoom t None ⊎ StandsAt NeedsOutcome t None)

-- A connection with this session may be closed for this reason. The server closes none whose request is being worked
-- on, and when it stops it closes none that has begun a request.
abbrev pub MayEnd : CloseReason → Talk → Type 0
MayEnd (Session end) t = EndsAt end t None
MayEnd Lost t = Unit {0}
MayEnd Silent t = t.asked ≡ None
MayEnd Stopped t = (t.asked ≡ None) × (t.held ≡ []) × (t.owed ≡ [])

-- the connection is closed as `ended` says, and isn't polled again
abbrev pub HasEnded : Connection → Closed → Type 0
HasEnded c ended = (c.stage ≡ Over) × (ended.peer ≡ c.peer) × MayEnd ended.how c.session
