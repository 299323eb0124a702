-- The state of a feed, and the results of its calls.
use Rattle.bytes.specs.Filled.{Filled}
use Rattle.tokio_util.specs.Codec.{LengthDelimited.codec_layout, LengthField.Layout, LengthField.default_layout}
use Rattle.tokio_util.specs.declared.codec.length_delimited.LengthDelimitedCodec.{LengthDelimitedCodec}
use Rattle.tokio_util.specs.declared.codec.length_delimited.{DecodeState.DecodeState, DecodeState.TheVariants.Head}
use Rattle.tokio_util.specs.declared.codec.length_delimited.DecodeState.TheVariants.{Data}
use Rattle.std.specs.Prelude.{◌≡◌, ℕ, get_or, ◌≤◌, ◌<◌, ◌^◌, ◌⊎◌, List, [], ◌++◌, length, Option, Some, None, Result}
use Rattle.std.specs.Prelude.{Ok, Err}
use Rattle.std.specs.Int.{w32, to_be_bytes}
use Rattle.snap_disk.specs.declared.refusal.Refusal.{Refusal}
use Rattle.snap_frame.specs.Messages.{max_payload, frame, Asks, Malformed, Says, SaysNothing}
use Rattle.snap_frame.specs.declared.frame_buffer.FrameFault.{FrameFault, TheVariants.NoMemory, TheVariants.TooLarge}
use Rattle.snap_frame.specs.declared.reply_feed.ReplyFault.{ReplyFault, TheVariants.BadReply, TheVariants.Failed}
use Rattle.snap_frame.specs.declared.request.Request.{Request}
use Rattle.snap_frame.specs.declared.reply.Reply.{Reply}
use Rattle.snap_disk.specs.declared.refusal.Refusal.TheVariants as refusals

-- the bytes that arrived and weren't taken off, and why the feed has failed
pub record Held : Type 0 where
  pub bytes : List ℕ
  pub failure : Option FrameFault

-- nothing is held, and it hasn't failed
abbrev pub empty : Held
empty = record { bytes = []; failure = None }

-- the refusal of a failure
abbrev pub refusal_of : FrameFault → Refusal
refusal_of NoMemory = refusals.NoMemory
refusal_of TooLarge = refusals.TooLarge

-- the bytes begin with the frame of x, and the rest follows
pub record HasFrame (bytes x rest : List ℕ) : Type 0 where
  pub fits : length x ≤ max_payload
  pub split : bytes ≡ frame x ++ rest

-- the bytes begin with a length above the limit
abbrev pub HasLongLength : List ℕ → Type 0
HasLongLength bytes = (n : ℕ) × (rest : List ℕ) × (max_payload < n) × (n < 2 ^ 32) × (bytes ≡ to_be_bytes w32 n ++ rest)

-- they begin with neither: more bytes are needed
pub record IsPartial (bytes : List ℕ) : Type 0 where
  pub no_frame : (x rest : List ℕ) → HasFrame bytes x rest → ⊥
  pub no_long : HasLongLength bytes → ⊥

-- the codec's bytes with the head that it has taken
abbrev pub pending_in : DecodeState → List ℕ → List ℕ
pending_in Head xs = xs
pending_in (Data n) xs = to_be_bytes w32 n ++ xs

abbrev pub pending : LengthDelimitedCodec → List ℕ → List ℕ
pending c xs = pending_in c.state xs

abbrev pub StateFits : DecodeState → Type 0
StateFits Head = Unit {0}
StateFits (Data n) = n ≤ max_payload

-- four bytes of length, the highest first, and at most this many of payload
abbrev pub feed_layout : Layout
feed_layout = record default_layout { max_frame_len = max_payload }

-- the codec can continue
pub record Ready (c : LengthDelimitedCodec) : Type 0 where
  pub layout : codec_layout c ≡ feed_layout
  pub fits : StateFits c.state

abbrev pub IsBytes : List ℕ → Type 0
IsBytes xs = (i : ℕ) → get_or xs i 0 < 256

-- the result of taking the first frame's payload, and the bytes that are left
abbrev pub Found : List ℕ → Result (Option Filled) FrameFault → List ℕ → Type 0
Found held (Ok (Some payload)) new = HasFrame held payload.items new
Found held (Ok None) new = IsPartial held × (new ≡ held)
Found held (Err NoMemory) new = (x : List ℕ) × (rest : List ℕ) × HasFrame held x rest
Found held (Err TooLarge) new = HasLongLength held × (new ≡ held)

-- it fails because memory ran out, with a whole frame first, or because of a length above the limit
abbrev pub Fails : List ℕ → FrameFault → Held → Type 0
Fails held NoMemory new = (x : List ℕ) × (rest : List ℕ) × HasFrame held x rest × (new.failure ≡ Some NoMemory)
Fails held TooLarge new =
    HasLongLength held × (new ≡ record { bytes = held; failure = Some TooLarge })

-- the result of taking the first frame off, and the state that is left
abbrev pub TakesOff : List ℕ → Result (Option Filled) FrameFault → Held → Type 0
TakesOff held (Ok (Some payload)) new = HasFrame held payload.items new.bytes × (new.failure ≡ None)
TakesOff held (Ok None) new = IsPartial held × (new ≡ record { bytes = held; failure = None })
TakesOff held (Err failure) new = Fails held failure new

-- The result of a feed's `next` over the bytes held, and the state that is left.
abbrev pub IsNextRequest : List ℕ → Result (Option Request) Refusal → Held → Type 0
IsNextRequest held (Ok (Some r)) new = (x : List ℕ) × HasFrame held x new.bytes × Asks x r × (new.failure ≡ None)
IsNextRequest held (Ok None) new = IsPartial held × (new ≡ record { bytes = held; failure = None })
IsNextRequest held (Err why) new = ((why ≡ refusals.Malformed) × (x : List ℕ) × HasFrame held x new.bytes × Malformed x
    × (new.failure ≡ None)) ⊎ ((failure : FrameFault) × (why ≡ refusal_of failure) × Fails held failure new)

-- The result of a reply feed's `next` over the bytes held, and the state that is left.
abbrev pub IsNextReply : List ℕ → Result (Option Reply) ReplyFault → Held → Type 0
IsNextReply held (Ok (Some r)) new = (x : List ℕ) × HasFrame held x new.bytes × Says x r × (new.failure ≡ None)
IsNextReply held (Ok None) new = IsPartial held × (new ≡ record { bytes = held; failure = None })
IsNextReply held (Err BadReply) new = (x : List ℕ) × HasFrame held x new.bytes × SaysNothing x × (new.failure ≡ None)
IsNextReply held (Err (Failed failure)) new = Fails held failure new

-- no frame is a beginning of another frame
abbrev pub NoFrameBeginsAnother : Type 0
NoFrameBeginsAnother = (x y rest : List ℕ) → length x ≤ max_payload → length y ≤ max_payload
    → frame x ++ rest ≡ frame y → x ≡ y
