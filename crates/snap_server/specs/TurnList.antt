-- The list of the connections to poll.
use Rattle.std.specs.Prelude.{◌≡◌, ◌≢◌, ◌↔◌, ◌++◌, ℕ, List, [], ◌∷◌, Some}
use Rattle.std.specs.List.{AllPairs, Contains}
use Rattle.slab.specs.Slab.{Slab, get}
use Rattle.snap_server.specs.declared.connection.ConnectionState.TheVariants.{Idle, Listed, Over}
use Rattle.snap_server.specs.declared.connection.{Connection.Connection, ConnectionState.ConnectionState}

-- the connection of this key is marked as listed
abbrev pub IsListed : Slab Connection → ℕ → Type 0
IsListed connections key = (c : Connection) × (get connections key ≡ Some c) × (c.stage ≡ Listed)

-- the list has exactly the keys of the connections that are marked as listed, each once
pub record Lists (keys : List ℕ) (connections : Slab Connection) : Type 0 where
  pub once : AllPairs (λ a b. a ≢ b) keys
  pub same : (key : ℕ) → Contains keys key ↔ IsListed connections key

-- The state of a connection once it was put on the list. A closed connection isn't put there.
abbrev pub enlisted : ConnectionState → ConnectionState
enlisted Idle = Listed
enlisted Listed = Listed
enlisted Over = Over

-- the list once a connection in this state was put on it: appended, unless it is listed or closed
abbrev pub listed_behind : ConnectionState → ℕ → List ℕ → List ℕ
listed_behind Idle key keys = keys ++ key ∷ []
listed_behind Listed key keys = keys
listed_behind Over key keys = keys

-- the list after a poll that leaves the connection in this state: one that has more to do is appended
abbrev pub again_behind : ConnectionState → ℕ → List ℕ → List ℕ
again_behind Idle key keys = keys
again_behind Listed key keys = keys ++ key ∷ []
again_behind Over key keys = keys

-- only the connection of this key may have changed
abbrev pub KeepsOthers : ℕ → Slab Connection → Slab Connection → Type 0
KeepsOthers key old new = (other : ℕ) → other ≢ key → get new other ≡ get old other
