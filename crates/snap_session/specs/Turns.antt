-- How a session uses its reader and its writer.
use Rattle.std.specs.Prelude.{◌≡◌, ◌≤◌, ◌<◌, ◌⊎◌, ℕ, zero, suc, List, [], ◌++◌, length, Option, Some, None}
use Rattle.std.specs.Io.KnownBytes.{Appends, Consumes, IsAtEnd}
use Rattle.snap_frame.specs.{declared.request.Request.Request, Stream.IsPartial, declared.reply.Reply.Reply}
use Rattle.snap_session.specs.declared.turns.Polled.TheVariants.{Again, NeedsInput, NeedsRoom, NeedsOutcome, Over}
use Rattle.snap_session.specs.Talk.{Talk, Goes, GoesBy, Stays, HasTaken, start, most_answers}
use Rattle.snap_session.specs.declared.turns.{End.End, Polled.Polled}
use Rattle.snap_session.specs.declared.turns.End.TheVariants as ends
use Rattle.snap_frame.specs.declared.frame_buffer.FrameFault.TheVariants as failures

-- A session's state before and after some turns: the bytes that were read were taken in, and those that were given out
-- were written.
pub record Turns {S : Type 0} (between : S → S → Type 0) (gives : S → Request → Reply → S
    → Type 0) (s t : S) (old : Talk) (read_old read_new written_old written_new : Option (List ℕ))
    (new : Talk) : Type 0 where
  pub taken : List ℕ
  pub given : List ℕ
  pub read : Consumes read_old read_new taken
  pub writes : Appends written_old written_new given
  pub goes : Goes between gives s t old taken given new

-- some bytes that were owed are written
pub record Sends (old new : Talk) (written_old written_new : Option (List ℕ)) : Type 0 where
  pub given : List ℕ
  pub owed : old.owed ≡ given ++ new.owed
  pub asked : new.asked ≡ old.asked
  pub held : new.held ≡ old.held
  pub over : new.over ≡ old.over
  pub writes : Appends written_old written_new given

-- all that arrived is answered and written, except an unfinished frame
abbrev pub AllSaid : Talk → Type 0
AllSaid t = (t.over ≡ None) × (t.owed ≡ []) × (t.asked ≡ None) × IsPartial t.held

-- the session once its connection has ended with this result
abbrev pub EndsAt : End → Talk → Option (List ℕ) → Type 0
EndsAt ends.Closed t left = (t.over ≡ None) × (t.owed ≡ []) × (t.asked ≡ None) × (t.held ≡ []) × IsAtEnd left
EndsAt ends.Truncated t left = AllSaid t × (t.held ≡ [] → ⊥) × IsAtEnd left
EndsAt ends.TooLarge t left = (t.over ≡ Some failures.TooLarge) × (t.owed ≡ [])
EndsAt ends.ReadFailed t left = AllSaid t
EndsAt ends.WriteFailed t left = t.owed ≡ [] → ⊥
EndsAt ends.NoMemory t left = (t.over ≡ Some failures.NoMemory) × (t.owed ≡ [])

-- the session after a turn with this result
abbrev pub StandsAt : Polled → Talk → Option (List ℕ) → Type 0
StandsAt Again t left = Unit {0}
StandsAt NeedsInput t left = AllSaid t
StandsAt NeedsRoom t left = t.owed ≡ [] → ⊥
StandsAt NeedsOutcome t left = (t.over ≡ None) × (t.owed ≡ []) × (t.asked ≡ None → ⊥)
StandsAt (Over end) t left = EndsAt end t left

-- A session from its start to its end, over a reader and a writer.
pub record Serves {S : Type 0} (gives : S → Request → Reply → S
    → Type 0) (s t : S) (read_old read_new written_old written_new : Option (List ℕ))
    (end : End) : Type 0 where
  pub last : Talk
  pub turns : Turns Stays gives s t start read_old read_new written_old written_new last
  pub ends : EndsAt end last read_new

-- the most rounds of a turn, so that one peer can't starve the others
abbrev pub most_rounds : ℕ
most_rounds = 16

-- A service and a session on it, with the bytes that its reader still has and that its writer has got, where these are
-- known.
pub record Scene (S : Type 0) : Type 0 where
  pub service : S
  pub talk : Talk
  pub left : Option (List ℕ)
  pub written : Option (List ℕ)

-- Nothing is read, or at most `most` bytes: only while the session isn't over, owes nothing, and no request is handed
-- over.
abbrev pub ReadsPiece : ℕ → Talk → Option (List ℕ) → Option (List ℕ) → List ℕ → Talk → Type 0
ReadsPiece most old left_old left_new piece new = Consumes left_old left_new piece × (((piece ≡ []) × (new ≡ old))
    ⊎ ((length piece ≤ most) × (old.over ≡ None) × (old.owed ≡ []) × (old.asked ≡ None) × HasTaken old piece new))

module _ {S : Type 0} (gives : S → Request → Reply → S → Type 0) (most : ℕ) where
  -- One round: bytes that are owed are written, frames that are held are answered, and then at most one read is taken
  -- in.
  pub record Round (a b : Scene S) : Type 0 where
    pub sent : Talk
    pub answered : Talk
    pub piece : List ℕ
    pub sends : Sends a.talk sent a.written b.written
    pub answers : GoesBy most_answers Stays gives a.service b.service sent [] [] answered
    pub reads : ReadsPiece most answered a.left b.left piece b.talk

  -- A round with progress: all that was owed is written, and the session is over, or owes something new, or has read
  -- something.
  pub record WholeRound (a b : Scene S) : Type 0 where
    pub round : Round a b
    pub all : round.sent.owed ≡ []
    pub gets_on : b.talk.over ≡ None → b.talk.owed ≡ [] → round.piece ≡ [] → ⊥

  -- this many rounds with progress
  abbrev pub WholeRounds : ℕ → Scene S → Scene S → Type 0
  WholeRounds zero a c = c ≡ a
  WholeRounds (suc n) a c = (b : Scene S) × WholeRounds n a b × WholeRound b c

  -- fewer rounds than a turn may take, all of which but the last one made progress
  abbrev pub FewRounds : Scene S → Scene S → Type 0
  FewRounds a c = (n : ℕ) × (b : Scene S) × (n < most_rounds) × WholeRounds n a b × Round b c

  -- The rounds of a turn with this result. It stops before the last round that it may take only if it would block, or
  -- has ended.
  abbrev pub TakesRounds : Polled → Scene S → Scene S → Type 0
  TakesRounds Again a c = WholeRounds most_rounds a c
  TakesRounds NeedsInput a c = FewRounds a c
  TakesRounds NeedsRoom a c = FewRounds a c
  TakesRounds NeedsOutcome a c = FewRounds a c
  TakesRounds (Over end) a c = FewRounds a c
