-- The writes and reads of one exchange.
use Rattle.std.specs.Prelude.{◌≡◌, ℕ, ◌<◌, ◌⊎◌, List, ◌++◌, length, take, Bool, true, false, Option, None, Result, Ok}
use Rattle.std.specs.Prelude.{Err}
use Rattle.std.specs.Io.KnownBytes.{Appends, Consumes, IsAtEnd}
use Rattle.snap_frame.specs.Stream.{Held, HasFrame, HasLongLength, IsPartial}
use Rattle.snap_frame.specs.{declared.reply.Reply.Reply, Messages.Says, Messages.SaysNothing}
use Rattle.snap_client.specs.declared.fault.ClientFault.{ClientFault}
use Rattle.snap_client.specs.declared.fault.ClientFault.TheVariants.{ConnectFailed, ReadFailed, WriteFailed, Ended}
use Rattle.snap_client.specs.declared.fault.ClientFault.TheVariants.{BadReply, NoMemory}

-- all bytes were written, or a beginning of them that isn't all
abbrev pub Sends : Option (List ℕ) → Option (List ℕ) → List ℕ → Bool → Type 0
Sends old new bytes true = Appends old new bytes
Sends old new bytes false = (n : ℕ) × (n < length bytes) × Appends old new (take n bytes)

-- an empty feed after a reply was read, or wasn't
abbrev pub Hears : Option (List ℕ) → Option (List ℕ) → Result Reply ClientFault → Held → Type 0
Hears old new (Ok r) held =
    (came : List ℕ) × (x : List ℕ) × Consumes old new came × HasFrame came x held.bytes × Says x r
    × (held.failure ≡ None)
Hears old new (Err ReadFailed) held = Consumes old new held.bytes × IsPartial held.bytes
Hears old new (Err Ended) held = Consumes old new held.bytes × IsPartial held.bytes × IsAtEnd new
Hears old new (Err BadReply) held = (came : List ℕ) × Consumes old new came × (HasLongLength came
    ⊎ ((x : List ℕ) × (rest : List ℕ) × HasFrame came x rest × SaysNothing x))
Hears old new (Err NoMemory) held =
    (before : List ℕ) × (piece : List ℕ) × IsPartial before × Consumes old new (before ++ piece)
Hears old new (Err WriteFailed) held = ⊥
Hears old new (Err ConnectFailed) held = ⊥
