-- The texts of addresses.
use Rattle.std.specs.Prelude.{ℕ, List, ◌++◌, codes, string_bytes}
use Rattle.std.specs.Net.Text.{socket_text}
use Rattle.snap_server.specs.declared.listen.{Endpoint.Endpoint, Peer.Peer}
use Rattle.snap_server.specs.declared.listen.Endpoint.TheVariants as endpoint
use Rattle.snap_server.specs.declared.listen.Peer.TheVariants as peer

-- the text by which a client connects to a listener
abbrev pub endpoint_text : Endpoint → List ℕ
endpoint_text (endpoint.Tcp address) = socket_text address
endpoint_text (endpoint.Unix path) = codes "unix:" ++ string_bytes path

-- the text of a peer's address in the log
abbrev pub peer_text : Peer → List ℕ
peer_text (peer.Tcp address) = socket_text address
peer_text peer.Unix = codes "unix"
