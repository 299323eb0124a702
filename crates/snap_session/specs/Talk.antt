-- The bytes and the requests of a session.
use Rattle.std.specs.Prelude.{◌≡◌, ℕ, ◌+◌, ◌≤◌, ◌⊎◌, List, [], ◌∷◌, ◌++◌, length, Option, Some, None, Bool, true, false}
use Rattle.snap_frame.specs.Messages.{max_payload, payload, frame, Asks, Malformed, Says, says}
use Rattle.snap_frame.specs.declared.frame_buffer.FrameFault.TheVariants.{TooLarge, NoMemory}
use Rattle.snap_frame.specs.{declared.request.Request.Request, Stream.HasLongLength, declared.reply.Reply.Reply}
use Rattle.snap_frame.specs.{declared.reply.Reply.TheVariants.Refused, declared.frame_buffer.FrameFault.FrameFault}
use Rattle.snap_session.specs.declared.session.TheConstants.{MAX_OWED}
use Rattle.snap_disk.specs.declared.refusal.Refusal.TheVariants as refusals

-- a session's state: the request that was handed over, the bytes that arrived after it, the bytes that are owed (the
-- pending output), and why no more are taken in
pub record Talk : Type 0 where
  pub asked : Option Request
  pub held : List ℕ
  pub owed : List ℕ
  pub over : Option FrameFault

abbrev pub start : Talk
start = record { asked = None; held = []; owed = []; over = None }

-- the frame of a request that was handed over
abbrev pub asked_bytes : Option Request → List ℕ
asked_bytes None = []
asked_bytes (Some q) = frame (payload q)

-- the bytes that arrived and aren't answered
abbrev pub came : Talk → List ℕ
came t = asked_bytes t.asked ++ t.held

-- the payload that refuses a malformed frame, and the one that refuses a length above the limit
abbrev pub refused_malformed : List ℕ
refused_malformed = says (Refused refusals.Malformed 0)

abbrev pub refused_too_large : List ℕ
refused_too_large = says (Refused refusals.TooLarge max_payload)

-- the frames of these payloads, one after another
abbrev pub frames : List (List ℕ) → List ℕ
frames [] = []
frames (x ∷ xs) = frame x ++ frames xs

-- a service in this state answers the first payload, which fits a frame, by the second: a request by a reply of its
-- own, within the limits of replies; anything else by a refusal as malformed
abbrev pub Answer : {S : Type 0} → (S → Request → Reply → S → Type 0) → S → List ℕ → List ℕ → S → Type 0
Answer {S} gives old x y new = (length x ≤ max_payload)
    × (((q : Request) × (r : Reply) × Asks x q × gives old q r new × Says y r)
    ⊎ (Malformed x × (new ≡ old) × (y ≡ refused_malformed)))

-- The payloads get these answers, one after another. Between two of them, and before and after all, the service may
-- change by `between`.
abbrev pub Run : {S : Type 0} → (S → S → Type 0) → (S → Request → Reply → S → Type 0) → S
    → List (List ℕ) → List (List ℕ) → S → Type 0
Run between gives old [] [] new = between old new
Run {S} between gives old (x ∷ xs) (y ∷ ys) new =
    (a : S) × (b : S) × between old a × Answer gives a x y b × Run between gives b xs ys new
Run between gives old [] (y ∷ ys) new = ⊥
Run between gives old (x ∷ xs) [] new = ⊥

-- no other session uses the service
abbrev pub Stays : {S : Type 0} → S → S → Type 0
Stays old new = new ≡ old

-- other sessions may have been answered in between
abbrev pub Moves : {S : Type 0} → (S → Request → Reply → S → Type 0) → S → S → Type 0
Moves gives old new = (xs : List (List ℕ)) × (ys : List (List ℕ)) × Run Stays gives old xs ys new

-- How a session may continue: the bytes that are left of those that arrived, and the bytes that are owed after all
-- replies. Once it is over nothing more is taken in or answered.
abbrev pub Phase : Option FrameFault → Option FrameFault → List ℕ → List (List ℕ) → List (List ℕ)
    → List (List ℕ) → List ℕ → List ℕ → List ℕ → Type 0
Phase None None taken payloads replies unsaid rest held tail = (unsaid ≡ []) × (tail ≡ []) × (held ≡ rest)
Phase None (Some TooLarge) taken payloads replies unsaid rest held tail =
    (unsaid ≡ []) × (tail ≡ frame refused_too_large) × HasLongLength rest
Phase None (Some NoMemory) taken payloads replies unsaid rest held tail = (length unsaid ≤ 1) × (tail ≡ [])
Phase (Some a) new taken payloads replies unsaid rest held tail =
    (new ≡ Some a) × (taken ≡ []) × (payloads ≡ []) × (replies ≡ []) × (unsaid ≡ []) × (tail ≡ [])

-- From one state of a session to another, with these bytes taken in and these written: what arrived is cut into frames,
-- which the service answers in order, and the replies' frames are owed.
pub record Goes {S : Type 0} (between : S → S → Type 0) (gives : S → Request → Reply → S
    → Type 0) (s t : S) (old : Talk) (taken given : List ℕ) (new : Talk) : Type 0 where
  pub payloads : List (List ℕ)
  pub replies : List (List ℕ)
  -- the replies for which memory ran out
  pub unsaid : List (List ℕ)
  pub rest : List ℕ
  pub tail : List ℕ
  pub run : Run between gives s payloads (replies ++ unsaid) t
  pub cut : came old ++ taken ≡ frames payloads ++ rest
  pub said : given ++ new.owed ≡ old.owed ++ (frames replies ++ tail)
  pub phase : Phase old.over new.over taken payloads replies unsaid rest (came new) tail

-- `Goes`, with at most `most` frames answered.
abbrev pub GoesBy : {S : Type 0} → ℕ → (S → S → Type 0) → (S → Request → Reply → S → Type 0) → S → S
    → Talk → List ℕ → List ℕ → Talk → Type 0
GoesBy most between gives s t old taken given new =
    (goes : Goes between gives s t old taken given new) × (length goes.payloads ≤ most)

-- memory ran out, and nothing else has changed
abbrev pub HasNoMemory : Talk → Talk → Type 0
HasNoMemory old new = new ≡ record old { over = Some NoMemory }

-- these bytes were taken in, or memory ran out
abbrev pub HasTaken : Talk → List ℕ → Talk → Type 0
HasTaken old piece new = (new ≡ record old { held = old.held ++ piece }) ⊎ HasNoMemory old new

-- the frame of a payload is owed after the rest, or memory ran out
abbrev pub Owes : Talk → List ℕ → Talk → Bool → Type 0
Owes old y new true = new ≡ record old { owed = old.owed ++ frame y }
Owes old y new false = HasNoMemory old new

-- the most bytes of a frame
abbrev pub longest_frame : ℕ
longest_frame = 4 + max_payload

-- the most bytes that are owed: an answer begins below the bound, and adds one frame
abbrev pub most_owed : ℕ
most_owed = MAX_OWED + longest_frame

-- the most frames that one call answers, so that one peer can't starve the others
abbrev pub most_answers : ℕ
most_answers = 64

-- while the session isn't over, it holds at most one frame and `more` bytes after it
abbrev pub HoldsFrameAnd : ℕ → Talk → Type 0
HoldsFrameAnd more t = t.over ≡ None → length t.held ≤ longest_frame + more
