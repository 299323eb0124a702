-- How the values of a server are fetched, and how the program ends without them.
use Rattle.std.specs.Prelude.{◌≡◌, ℕ, List, Option, Result, Ok, Err}
use Rattle.std.specs.declared.{vec.Vec.Vec, alloc.Global.Global}
use Rattle.snap_client.specs.Again.{TriesIn}
use Rattle.snap_client.specs.declared.fault.ClientFault.{ClientFault, TheVariants.NoMemory}
use Rattle.snap_frame.specs.segment_value.SegmentValue.{SegmentValue}
use Rattle.snap_frame.specs.declared.reply.Reply.{Reply, TheVariants.Refused, TheVariants.Snapshot}
use Rattle.snap_order.specs.{request.Request.TheVariants.Scan, declared.status.Exit.Exit}
use Rattle.snap_client_commands.specs.Ends.{HasFailed, IsRefused}

-- how the program ends after an answer without values
abbrev pub EndsWithout : Result Reply ClientFault → Exit → Type 0
EndsWithout (Ok (Refused why detail)) ended = IsRefused ended
EndsWithout (Err NoMemory) ended = IsRefused ended
EndsWithout answer ended = HasFailed ended

-- the values are those of the answer; or it has none, and the program ends
abbrev pub EndsFetch : Result Reply ClientFault → Result (Vec SegmentValue Global) Exit → Type 0
EndsFetch answer (Ok values) = answer ≡ Ok (Snapshot values)
EndsFetch answer (Err ended) = EndsWithout answer ended

-- a scan was sent on at most that many connections, and these are the values of the last answer
abbrev pub Fetches : {F R C : Type 0} → (tries : Option ℕ) → (F → Option (R × C) → F → Type 0)
    → (R → Option (List ℕ)) → (C → Option (List ℕ)) → F → Result (Vec SegmentValue Global) Exit → F → Type 0
Fetches tries connects remaining contents old result new = (answer : Result Reply ClientFault)
    × TriesIn tries connects remaining contents Scan old answer new × EndsFetch answer result
