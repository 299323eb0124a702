-- How a client's call changes its connection.
use Rattle.std.specs.Prelude.{◌≡◌, ℕ, ◌<◌, ◌⊎◌, List, [], ◌++◌, length, take, Option, Some, None, Result, Ok, Err}
use Rattle.std.specs.Io.KnownBytes.{Appends, Consumes, IsAtEnd}
use Rattle.snap_frame.specs.declared.request.Request.TheVariants.{Update, Scan, Status, Part}
use Rattle.snap_frame.specs.Messages.{payload, frame, Says, SaysNothing}
use Rattle.snap_frame.specs.Stream.{HasFrame, HasLongLength, IsPartial}
use Rattle.snap_frame.specs.declared.{request.Request.Request, reply.Reply.Reply}
use Rattle.snap_client.specs.declared.fault.ClientFault.{ClientFault}
use Rattle.snap_client.specs.declared.fault.ClientFault.TheVariants.{ConnectFailed, ReadFailed, WriteFailed, Ended}
use Rattle.snap_client.specs.declared.fault.ClientFault.TheVariants.{BadReply, NoMemory}
use Rattle.snap_frame.specs.declared.reply.Reply.TheVariants as replies

-- a connection, the bytes that were read and belong to no reply that was returned, and why the client has failed
pub record ClientState (R W : Type 0) : Type 0 where
  pub reader : R
  pub writer : W
  pub held : List ℕ
  pub fault : Option ClientFault

-- a client of this connection
abbrev pub client_of : {R W : Type 0} → R → W → List ℕ → Option ClientFault → ClientState R W
client_of reader writer held fault = record {
  reader = reader;
  writer = writer;
  held = held;
  fault = fault;
}

-- a client that hasn't failed
abbrev pub talking : {R W : Type 0} → R → W → List ℕ → ClientState R W
talking reader writer held = client_of reader writer held None

-- a client of a connection on which nothing was sent or read
abbrev pub fresh : {R W : Type 0} → R → W → ClientState R W
fresh reader writer = talking reader writer []

-- a reply of this kind answers the request; a refusal answers any
abbrev pub Answers : Request → Reply → Type 0
Answers q (replies.Refused why detail) = Unit {0}
Answers (Update segment number value) (replies.Stored stored) = Unit {0}
Answers Scan (replies.Snapshot values) = Unit {0}
Answers Status (replies.Status statuses) = Unit {0}
Answers (Part set) (replies.Part values) = Unit {0}
Answers q r = ⊥

-- the payload is no reply, or one of another kind
abbrev pub IsNoAnswer : Request → List ℕ → Type 0
IsNoAnswer q x = SaysNothing x ⊎ ((r : Reply) × Says x r × (Answers q r → ⊥))

-- the first frame of the bytes that arrived is no answer
abbrev pub BeginsBadly : Request → List ℕ → Type 0
BeginsBadly q came = HasLongLength came ⊎ ((x : List ℕ) × (rest : List ℕ) × HasFrame came x rest × IsNoAnswer q x)

-- nothing was read or written
pub record IsUntouched {R W : Type 0} (old new : ClientState R W) : Type 0 where
  pub reader : new.reader ≡ old.reader
  pub writer : new.writer ≡ old.writer
  pub held : new.held ≡ old.held

-- Nothing was held, the request's frame was written, and then these bytes arrived.
pub record HasAsked {R W : Type 0} (remaining : R → Option (List ℕ)) (contents : W → Option (List ℕ))
    (q : Request) (old : ClientState R W) (came : List ℕ) (new : ClientState R W) : Type 0 where
  pub silent : old.held ≡ []
  pub wrote : Appends (contents old.writer) (contents new.writer) (frame (payload q))
  pub read : Consumes (remaining old.reader) (remaining new.reader) came

-- a beginning of the request's frame was written, and not all of it, and nothing was read
pub record HasCutShort {R W : Type 0} (contents : W → Option (List ℕ)) (q : Request)
    (old new : ClientState R W) : Type 0 where
  pub len : ℕ
  pub short : len < length (frame (payload q))
  pub wrote : Appends (contents old.writer) (contents new.writer) (take len (frame (payload q)))
  pub reader : new.reader ≡ old.reader
  pub held : new.held ≡ old.held

-- how far a call came that returns this result
abbrev pub Reaches : {R W : Type 0} → (R → Option (List ℕ)) → (W → Option (List ℕ)) → Request
    → ClientState R W → Result Reply ClientFault → ClientState R W → Type 0
-- the frame of the answer arrived first, and the bytes after it are held
Reaches remaining contents q old (Ok r) new =
    (came : List ℕ) × (x : List ℕ) × HasAsked remaining contents q old came new
    × HasFrame came x new.held × Says x r × Answers q r
Reaches remaining contents q old (Err WriteFailed) new = HasCutShort contents q old new
Reaches remaining contents q old (Err ReadFailed) new =
    HasAsked remaining contents q old new.held new × IsPartial new.held
Reaches remaining contents q old (Err Ended) new = HasAsked remaining contents q old new.held new × IsPartial new.held
    × IsAtEnd (remaining new.reader)
-- bytes without a request were held, or what arrived begins with no answer
Reaches remaining contents q old (Err BadReply) new = ((old.held ≡ [] → ⊥) × IsUntouched old new)
    ⊎ ((came : List ℕ) × HasAsked remaining contents q old came new × BeginsBadly q came)
-- memory ran out before the frame was written, or for the last piece that arrived
Reaches remaining contents q old (Err NoMemory) new = ((old.held ≡ []) × IsUntouched old new)
    ⊎ ((before : List ℕ) × (piece : List ℕ) × IsPartial before
    × HasAsked remaining contents q old (before ++ piece) new)
Reaches remaining contents q old (Err ConnectFailed) new = ⊥

-- why a client has failed after a call that returns this result
abbrev pub fault_of : Result Reply ClientFault → Option ClientFault
fault_of (Ok r) = None
fault_of (Err f) = Some f

-- a client that hasn't failed does the call; one that has returns its fault, and does nothing
abbrev pub CallsAfter : {R W : Type 0} → Option ClientFault → (R → Option (List ℕ)) → (W
    → Option (List ℕ)) → Request → ClientState R W → Result Reply ClientFault → ClientState R W → Type 0
CallsAfter None remaining contents q old result new =
    Reaches remaining contents q old result new × (new.fault ≡ fault_of result)
CallsAfter (Some f) remaining contents q old result new = (result ≡ Err f) × (new ≡ old)

-- A call's result for a request, and the client after it.
abbrev pub Calls : {R W : Type 0} → (R → Option (List ℕ)) → (W → Option (List ℕ)) → Request
    → ClientState R W → Result Reply ClientFault → ClientState R W → Type 0
Calls remaining contents q old result new = CallsAfter old.fault remaining contents q old result new
