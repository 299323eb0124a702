-- The rounds of one poll of a connection.
use Rattle.std.specs.Prelude.{◌≡◌, ℕ, Some}
use Rattle.slab.specs.Slab.{Slab, get}
use Rattle.snap_frame.specs.declared.{request.Request.Request, reply.Reply.Reply}
use Rattle.snap_session.specs.Talk.{Moves}
use Rattle.snap_session.specs.Turns.{Scene, FewRounds, WholeRounds, most_rounds}
use Rattle.snap_server.specs.declared.connection.ConnectionState.TheVariants.{Idle, Listed, Over}
use Rattle.snap_server.specs.declared.connection.Connection.{Connection}
use Rattle.snap_server.specs.{declared.connection.ConnectionState.ConnectionState, TurnList.KeepsOthers, Scene.scene}

-- The rounds of one poll, with reads of at most `most` bytes, by the connection's state after it. If it is listed
-- again, the poll took all rounds that it may take. Otherwise it would block before the last of them, or is closed.
abbrev pub HadRounds : {S : Type 0} (gives : S → Request → Reply → S → Type 0) (most : ℕ) → ConnectionState
    → Scene S → Scene S → Type 0
HadRounds gives most Idle a b = FewRounds gives most a b
HadRounds gives most Listed a b = WholeRounds gives most most_rounds a b
HadRounds gives most Over a b = FewRounds gives most a b

-- The connection of this key was polled once, and no other one changed.
pub record HadTurn {S : Type 0} (gives : S → Request → Reply → S → Type 0) (most key : ℕ) (s t : S)
    (old new : Slab Connection) : Type 0 where
  pub rounds : (c : Connection) → (d : Connection) → get old key ≡ Some c → get new key ≡ Some d
      → HadRounds gives most d.stage (scene s c.session) (scene t d.session)
  pub others : KeepsOthers key old new

-- A connection in this state, while the service changed from s to t. A listed connection was polled once, with others
-- before and after it; any other is unchanged.
abbrev pub HadItsTurn : {S : Type 0} (gives : S → Request → Reply → S → Type 0) (most : ℕ) → ConnectionState
    → S → S → Connection → Connection → Type 0
HadItsTurn gives most Idle s t c d = d ≡ c
HadItsTurn {S} gives most Listed s t c d = (a : S) × (b : S) × Moves gives s a
    × HadRounds gives most d.stage (scene a c.session) (scene b d.session) × Moves gives b t
HadItsTurn gives most Over s t c d = d ≡ c
