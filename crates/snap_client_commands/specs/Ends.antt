-- How a call ends.
use Rattle.std.specs.Prelude.{◌≡◌, ◌⊎◌, ℕ, List, length, slice_get, Option, Some, None, Result, Ok, Err, true}
use Rattle.std.specs.Prelude.{if◌then◌else◌}
use Rattle.std.specs.Io.KnownBytes.{Appends, Keeps}
use Rattle.snap_client.specs.Again.{TriesIn}
use Rattle.snap_client.specs.declared.fault.ClientFault.{ClientFault, TheVariants.NoMemory}
use Rattle.snap_frame.specs.declared.named.NamedValue.{NamedValue}
use Rattle.snap_frame.specs.declared.reply.Reply.{Reply, TheVariants.Refused, TheVariants.Stored}
use Rattle.snap_order.specs.declared.order.CallRequest.TheVariants.{Get, Health}
use Rattle.snap_order.specs.Order.{request_of}
use Rattle.snap_order.specs.declared.order.{CallOptions.CallOptions, OutputFormat.OutputFormat, CallRequest.CallRequest}
use Rattle.snap_order.specs.declared.status.{Status.Status, Exit.Exit}
use Rattle.snap_order.specs.Streams.{AppendsBeginning}
use Rattle.snap_client_commands.specs.Text.{Shows, is_any_fenced, stored_line}
use Rattle.snap_frame.specs.declared.reply.Reply.TheVariants as reply
use Rattle.snap_order.specs.declared.status.Status.TheVariants as status

-- the server or this program refused, or memory ran out
abbrev pub IsRefused : Exit → Type 0
IsRefused ended = ended.status ≡ status.Refused

-- there is no answer, or a stream failed
abbrev pub HasFailed : Exit → Type 0
HasFailed ended = ended.status ≡ status.Failed

-- the status after an answer was printed: as refused if a health call found a fenced segment
abbrev pub answer_status : CallRequest → Reply → Status
answer_status Health (reply.Status statuses) =
    if is_any_fenced statuses.items then status.Refused else status.Done
answer_status question reply = status.Done

-- the text was printed whole
pub record IsPrinted (how : Status) (text : List ℕ) (ended : Exit) (out out' : Option (List ℕ)) : Type 0 where
  pub status : ended.status ≡ how
  pub told : ended.is_told ≡ true
  pub whole : Appends out out' text

-- standard output failed after a beginning of the text
abbrev pub IsCutShort : List ℕ → Exit → (out out' : Option (List ℕ)) → Type 0
IsCutShort text ended out out' = HasFailed ended × AppendsBeginning out out' text

-- the text was printed, or cut short
abbrev pub PrintsInPlace : (how : Status) → List ℕ → Exit → (out out' : Option (List ℕ)) → Type 0
PrintsInPlace how text ended out out' = IsPrinted how text ended out out' ⊎ IsCutShort text ended out out'

-- a text of the reply was printed or cut short, or memory ran out before the first byte
unfoldable pub Prints : (how : Status) → OutputFormat → CallRequest → Reply → Exit → (out out' : Option (List ℕ))
    → Type 0
Prints how layout question reply ended out out' =
    ((text : List ℕ) × Shows layout question reply text × PrintsInPlace how text ended out out')
    ⊎ (IsRefused ended × Keeps out out')

-- the reply has this segment's value, and no other one
abbrev pub IsOnlyValue : ℕ → List NamedValue → List ℕ → Type 0
IsOnlyValue segment values x = (length values ≡ 1)
    × ((v : NamedValue) × (slice_get values 0 ≡ Some v) × (v.segment ≡ segment) × (v.value ≡ x))

-- the value of this segment was printed, byte for byte; a reply without it, or with another one, counts as no answer
abbrev pub EndsGot : ℕ → List NamedValue → Exit → (out out' : Option (List ℕ)) → Type 0
EndsGot segment values ended out out' = ((x : List ℕ) × IsOnlyValue segment values x
    × PrintsInPlace status.Done x ended out out')
    ⊎ (((x : List ℕ) → IsOnlyValue segment values x → ⊥) × HasFailed ended × Keeps out out')

-- how a call ends after the reply to a read
abbrev pub EndsRead : OutputFormat → CallRequest → Reply → Exit → (out out' : Option (List ℕ)) → Type 0
EndsRead layout (Get segment) (reply.Part values) ended out out' = EndsGot segment values.items ended out out'
EndsRead layout question reply ended out out' =
    Prints (answer_status question reply) layout question reply ended out out'

-- the reply is one to a read
abbrev pub IsRead : Reply → Type 0
IsRead (reply.Snapshot values) = Unit {0}
IsRead (reply.Part values) = Unit {0}
IsRead (reply.Status statuses) = Unit {0}
IsRead reply = ⊥

-- How a call with this request and output format ends after this answer: `out` and `out'` are the contents of standard
-- output before and after. Memory can run out only for the text of a read and within the client, but never after the
-- reply to an update, stored or refused.
abbrev pub EndsAsked : OutputFormat → CallRequest → Result Reply ClientFault → Exit
    → (out out' : Option (List ℕ)) → Type 0
EndsAsked layout question (Ok (Refused why detail)) ended out out' = IsRefused ended × Keeps out out'
EndsAsked layout question (Ok (Stored number)) ended out out' =
    PrintsInPlace status.Done (stored_line number) ended out out'
EndsAsked layout question (Ok reply) ended out out' = EndsRead layout question reply ended out out'
EndsAsked layout question (Err NoMemory) ended out out' = IsRefused ended × Keeps out out'
EndsAsked layout question (Err fault) ended out out' = HasFailed ended × Keeps out out'

-- The most connections of a request with this wait and these tries. `None` if it waits: then any number.
abbrev pub most_tries : (wait : Option ℕ) → (tries : ℕ) → Option ℕ
most_tries None tries = Some tries
most_tries (Some seconds) tries = None

-- the most connections of a request of this order
unfoldable pub tries_of : CallOptions → Option ℕ
tries_of c = most_tries c.wait c.tries

-- A request was sent on at most that many connections, and the answer decides the end.
abbrev pub Asks : {F R C : Type 0} → OutputFormat → (tries : Option ℕ) → (F → Option (R × C) → F → Type 0)
    → (R → Option (List ℕ)) → (C → Option (List ℕ)) → CallRequest → F → Exit → F → (out out' : Option (List ℕ)) → Type 0
Asks layout tries connects remaining contents question old ended new out out' = (answer : Result Reply ClientFault)
    × TriesIn tries connects remaining contents (request_of question) old answer new
    × EndsAsked layout question answer ended out out'
