-- The connections that a listener accepts, and the senders to which they are delivered.
use Rattle.std.specs.Prelude.{◌≡◌, ℕ, zero, suc, ◌+◌, ◌-◌, nat_lt, if◌then◌else◌, List, [], ◌∷◌, length}
use Rattle.std.specs.Prelude.{slice_get, Some}
use Rattle.std.specs.Prelude.{Result, Ok, Err}
use Rattle.snap_server.specs.declared.listen.{Accepted.Accepted, AcceptFault.AcceptFault}

-- the index of the next worker among `many`: after the last comes the first
abbrev pub turn_of : ℕ → ℕ → ℕ
turn_of next many = if nat_lt next many then next else 0

-- the index of the worker whose turn it is after k connections
abbrev pub turn_after : (many k : ℕ) → ℕ
turn_after many zero = 0
turn_after many (suc k) = turn_of (turn_after many k + 1) many

-- the connection was delivered to a sender that had none, or to this one, or, as this one is busy, to the last of them
pub data IsDelivered {H : Type 0} (takes : H → Accepted → Type 0) (busy idle : H → Type 0) (senders : List H)
    (sender : H) (arrival : Accepted) : Type 0 where
  Idle : (free : H) × (i : ℕ) × (slice_get senders i ≡ Some free) × idle free × takes free arrival
      → IsDelivered takes busy idle senders sender arrival
  Taken : takes sender arrival → IsDelivered takes busy idle senders sender arrival
  Passed : busy sender → (last : H) × (slice_get senders (length senders - 1) ≡ Some last) × takes last arrival
      → IsDelivered takes busy idle senders sender arrival

-- `accepts` has the possible results of a call of the listener, and the listener after it.
module _ {L : Type 0} (accepts : L → Result Accepted AcceptFault → L → Type 0) where
  -- Each of these calls accepted no connection, for this reason. The latest is first in the list.
  abbrev pub CallsInVain : List AcceptFault → L → L → Type 0
  CallsInVain [] old new = new ≡ old
  CallsInVain (why ∷ earlier) old new = (mid : L) × CallsInVain earlier old mid × accepts mid (Err why) new

  -- no call accepted a connection
  abbrev pub AsksInVain : L → L → Type 0
  AsksInVain old new = (whys : List AcceptFault) × CallsInVain whys old new

  -- the listener was called until it accepted this connection
  abbrev pub Gives : L → Accepted → L → Type 0
  Gives old arrival new = (mid : L) × AsksInVain old mid × accepts mid (Ok arrival) new

  -- this many connections were accepted, one after another
  abbrev pub GivesSoMany : ℕ → L → L → Type 0
  GivesSoMany zero old new = new ≡ old
  GivesSoMany (suc k) old new = (mid : L) × (arrival : Accepted) × GivesSoMany k old mid × Gives mid arrival new

  -- `GivesSoMany`, and each connection was delivered to a sender that had none, or to the one whose turn it was, or for
  -- that one to the last.
  abbrev pub Deals : {H : Type 0} (takes : H → Accepted → Type 0) (busy idle : H → Type 0) (senders : List H)
      → ℕ → L → L → Type 0
  Deals takes busy idle senders zero old new = new ≡ old
  Deals {H} takes busy idle senders (suc k) old new =
      (mid : L) × (arrival : Accepted) × (sender : H) × Deals takes busy idle senders k old mid
      × Gives mid arrival new × (slice_get senders (turn_after (length senders) k) ≡ Some sender)
      × IsDelivered takes busy idle senders sender arrival
