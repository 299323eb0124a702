-- One request on one connection after another.
use Rattle.std.specs.Prelude.{◌≡◌, ℕ, zero, suc, ◌^◌, ◌⊎◌, List, Option, Some, None, Result, Ok, Err}
use Rattle.snap_frame.specs.declared.{request.Request.Request, reply.Reply.Reply}
use Rattle.snap_client.specs.declared.fault.ClientFault.{ClientFault}
use Rattle.snap_client.specs.declared.fault.ClientFault.TheVariants.{ConnectFailed, ReadFailed, WriteFailed, Ended}
use Rattle.snap_client.specs.declared.fault.ClientFault.TheVariants.{BadReply, NoMemory}
use Rattle.snap_client.specs.Calls.{ClientState, Calls, fresh}

-- the request may be answered on another connection
abbrev pub MayPass : ClientFault → Type 0
MayPass ConnectFailed = Unit {0}
MayPass ReadFailed = Unit {0}
MayPass WriteFailed = Unit {0}
MayPass Ended = Unit {0}
MayPass BadReply = ⊥
MayPass NoMemory = ⊥

-- One call of `connect`, and the request on the connection that it returned.
abbrev pub Tries : {F R W : Type 0} → (F → Option (R × W) → F → Type 0) → (R → Option (List ℕ))
    → (W → Option (List ℕ)) → Request → F → Result Reply ClientFault → F → Type 0
Tries {F} {R} {W} connects remaining contents q old result new = (connects old None new × (result ≡ Err ConnectFailed))
    ⊎ ((r : R) × (w : W) × (s : ClientState R W) × connects old (Some (r, w)) new
    × Calls remaining contents q (fresh r w) result s)

-- it is no fault that may pass
abbrev pub IsFinal : Result Reply ClientFault → Type 0
IsFinal (Ok r) = Unit {0}
IsFinal (Err f) = MayPass f → ⊥

-- At least one try and at most this many: the last one's outcome is the answer, and each of the
-- others ended with a fault that may pass. Fewer are made only if the last outcome is final.
abbrev pub TriesUpTo : {F R W : Type 0} → ℕ → (F → Option (R × W) → F → Type 0) → (R
    → Option (List ℕ)) → (W → Option (List ℕ)) → Request → F → Result Reply ClientFault → F → Type 0
TriesUpTo zero connects remaining contents q old result new = ⊥
TriesUpTo {F} (suc n) connects remaining contents q old result new =
    (Tries connects remaining contents q old result new × ((n ≡ 0) ⊎ IsFinal result))
    ⊎ ((fault : ClientFault) × (mid : F) × MayPass fault × Tries connects remaining contents q old (Err fault) mid
    × TriesUpTo n connects remaining contents q mid result new)

-- No further try follows the first n: the last outcome is final, `connect` returned no connection
-- for another one, or there were more than any run makes.
abbrev pub NoneFollows : {F R W : Type 0} → ℕ → (F → Option (R × W) → F → Type 0) → (R
    → Option (List ℕ)) → (W → Option (List ℕ)) → Request → F → Result Reply ClientFault → F → Type 0
NoneFollows n connects remaining contents q mid result new = (IsFinal result × (new ≡ mid))
    ⊎ (Tries connects remaining contents q mid (Err ConnectFailed) new ⊎ ((n ≡ 2 ^ 64) × (new ≡ mid)))

-- As many tries as there are connections: the last one's outcome is the answer, and each of the
-- others ended with a fault that may pass.
abbrev pub TriesWhile : {F R W : Type 0} → (F → Option (R × W) → F → Type 0) → (R
    → Option (List ℕ)) → (W → Option (List ℕ)) → Request → F → Result Reply ClientFault → F → Type 0
TriesWhile {F} connects remaining contents q old result new =
    (n : ℕ) × (mid : F) × TriesUpTo n connects remaining contents q old result mid
    × NoneFollows n connects remaining contents q mid result new

-- up to n tries, or as many as there are connections
abbrev pub TriesIn : {F R W : Type 0} → Option ℕ → (F → Option (R × W) → F → Type 0) → (R
    → Option (List ℕ)) → (W → Option (List ℕ)) → Request → F → Result Reply ClientFault → F → Type 0
TriesIn (Some n) connects remaining contents q old result new = TriesUpTo n connects remaining contents q old result new
TriesIn None connects remaining contents q old result new = TriesWhile connects remaining contents q old result new
