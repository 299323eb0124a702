-- The requests of a put, and how it ends.
use Rattle.std.specs.Prelude.{◌≡◌, ◌⊎◌, ℕ, ◌+◌, ◌<◌, ◌≤◌, List, length, slice_get, Option, Some, None, IfSome, Result}
use Rattle.std.specs.Prelude.{Ok}
use Rattle.std.specs.Io.KnownBytes.{Keeps}
use Rattle.snap_client.specs.{Again.TriesIn, declared.fault.ClientFault.ClientFault}
use Rattle.snap_frame.specs.declared.{entries.SegmentStatus.SegmentStatus, reply.Reply.Reply}
use Rattle.snap_order.specs.request.Request.TheVariants.{Status, Update}
use Rattle.snap_order.specs.{Limits.MAX_VALUE_LEN, declared.order.Source.Source, declared.status.Exit.Exit}
use Rattle.snap_order.specs.{declared.order.OutputFormat.OutputFormat, declared.order.OutputFormat.TheVariants.Lines}
use Rattle.snap_order.specs.{declared.order.PutOptions.PutOptions, declared.order.CallRequest.CallRequest}
use Rattle.snap_order.specs.Streams.{Had}
use Rattle.snap_client_commands.specs.Ends.{Asks, EndsAsked, HasFailed, IsRefused}
use Rattle.snap_client_commands.specs.declared.put.NoValue.{NoValue}
use Rattle.snap_client_commands.specs.declared.put.NoValue.TheVariants.{TooLong, Failed, NoMemory}
use Rattle.snap_frame.specs.declared.reply.Reply.TheVariants as reply
use Rattle.snap_order.specs.declared.order.CallRequest.TheVariants as question
use Rattle.snap_order.specs.declared.order.Source.TheVariants as source

-- the value of a put: all bytes of standard input, if a value may have that many, or those of the argument
abbrev pub HasValue : Source → (known : Option (List ℕ)) → List ℕ → Type 0
HasValue source.Input known v = Had known v × (length v ≤ MAX_VALUE_LEN)
HasValue (source.Words bytes) known v = v ≡ bytes

-- standard input has more bytes than a value may have
abbrev pub IsTooLong : Source → (known : Option (List ℕ)) → Type 0
IsTooLong source.Input known = IfSome known (λ xs. MAX_VALUE_LEN < length xs)
IsTooLong (source.Words bytes) known = ⊥

-- the possible reasons of no value, if standard input has these bytes: only input that is read can be too long or fail
abbrev pub MayLack : Source → (known : Option (List ℕ)) → NoValue → Type 0
MayLack s known TooLong = IsTooLong s known
MayLack s known (Failed error) = s ≡ source.Input
MayLack s known NoMemory = Unit {0}

-- how the call ends for this reason
abbrev pub EndsLacking : NoValue → Exit → Type 0
EndsLacking (Failed error) ended = HasFailed ended
EndsLacking lack ended = IsRefused ended

-- the status has this number of the segment
abbrev pub TellsNumber : List SegmentStatus → (segment number : ℕ) → Type 0
TellsNumber statuses i k = (s : SegmentStatus) × (slice_get statuses i ≡ Some s) × (s.number ≡ k)

-- What follows the answer to the request for the numbers: an update with the next number of this segment, or the
-- refusal of a segment that the server doesn't have. Any other answer ends the call.
abbrev pub GoesOn : {F R C : Type 0} → (tries : Option ℕ) → (F → Option (R × C) → F → Type 0)
    → (R → Option (List ℕ)) → (C → Option (List ℕ)) → (segment : ℕ) → (v : List ℕ)
    → Result Reply ClientFault → F → Exit → F → (out out' : Option (List ℕ)) → Type 0
GoesOn tries connects remaining contents i v (Ok (reply.Status statuses)) mid ended new out out' =
    ((k : ℕ) × TellsNumber statuses.items i k × Asks Lines tries connects remaining contents
    (question.Request (Update i (k + 1) v)) mid ended new out out')
    ⊎ ((length statuses.items ≤ i) × (new ≡ mid) × IsRefused ended × Keeps out out')
GoesOn tries connects remaining contents i v told mid ended new out out' =
    (new ≡ mid) × EndsAsked Lines (question.Request Status) told ended out out'

-- the value is stored after the number that is given, or after the one that the server returns in this call
abbrev pub Stores : {F R C : Type 0} → (tries : Option ℕ) → (F → Option (R × C) → F → Type 0)
    → (R → Option (List ℕ)) → (C → Option (List ℕ)) → (after : Option ℕ) → (segment : ℕ)
    → (v : List ℕ) → F → Exit → F → (out out' : Option (List ℕ)) → Type 0
Stores tries connects remaining contents (Some k) i v old ended new out out' =
    Asks Lines tries connects remaining contents (question.Request (Update i (k + 1) v)) old ended new out out'
Stores {F} tries connects remaining contents None i v old ended new out out' =
    (told : Result Reply ClientFault) × (mid : F) × TriesIn tries connects remaining contents Status old told mid
    × GoesOn tries connects remaining contents i v told mid ended new out out'

-- How a put runs and ends, if standard input has the `known` bytes. Without a value no connection is made.
abbrev pub Puts : {F R C : Type 0} → (tries : Option ℕ) → (F → Option (R × C) → F → Type 0)
    → (R → Option (List ℕ)) → (C → Option (List ℕ)) → PutOptions → (known : Option (List ℕ))
    → F → Exit → F → (out out' : Option (List ℕ)) → Type 0
Puts tries connects remaining contents p known old ended new out out' =
    ((lack : NoValue) × MayLack p.value known lack × EndsLacking lack ended × (new ≡ old) × Keeps out out')
    ⊎ ((v : List ℕ) × HasValue p.value known v × Stores tries connects remaining contents p.after
    p.segment v old ended new out out')

-- how a call with this request and output format runs and ends
abbrev pub Does : {F R C : Type 0} → OutputFormat → (tries : Option ℕ) → (F → Option (R × C) → F → Type 0)
    → (R → Option (List ℕ)) → (C → Option (List ℕ)) → CallRequest → (known : Option (List ℕ))
    → F → Exit → F → (out out' : Option (List ℕ)) → Type 0
Does layout tries connects remaining contents asked known old ended new out out' =
    ((p : PutOptions) × (asked ≡ question.Put p)
    × Puts tries connects remaining contents p known old ended new out out')
    ⊎ (((p : PutOptions) → asked ≡ question.Put p → ⊥)
    × Asks layout tries connects remaining contents asked old ended new out out')

-- the call is a put of standard input
abbrev pub ReadsInput : CallRequest → Type 0
ReadsInput (question.Put p) = p.value ≡ source.Input
ReadsInput asked = ⊥
