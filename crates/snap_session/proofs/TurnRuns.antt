-- Turns one after another.
use Rattle.std.proofs.Common.{◌≡◌, ℕ, List, [], ◌++◌, Option, None, OnSome, Some, refl, sym, ◌∙◌, ap, append-nil}
use Rattle.std.proofs.Common.{append_assoc, take, drop, length, length-append, arith, ◌≤◌, ◌∷◌, Bool, true, false}
use Rattle.std.proofs.Common.{eqb-true}
use Rattle.std.specs.{Bool.◌==◌, Io.KnownBytes.Appends, Io.KnownBytes.Consumes}
use Rattle.std.proofs.KnownBytes.{Appends-nil, Appends-trans, Consumes-nil, Consumes-trans}
use Rattle.std.proofs.lemmas.{List.take-append-drop, Bool.Decides.nat_tests}
use Rattle.snap_frame.specs.declared.{request.Request.Request, reply.Reply.Reply}
use Rattle.snap_session.specs.declared.turns.SendOutcome.TheVariants.{All, Blocked, Failed}
use Rattle.snap_session.specs.Talk.{Talk, Goes, Stays, HasTaken, came, start, most_owed, HoldsFrameAnd}
use Rattle.snap_session.specs.Turns.{Turns, Sends, Serves, EndsAt}
use Rattle.snap_session.proofs.Steps.{rests, takes, sends}
use Rattle.snap_session.specs.declared.turns.End.{End}
use Rattle.snap_session.proofs.{Runs.Joins, Runs.stays_joins, Continuation.goes_on, Held.holds_sent}

pub turns_on : {S : Type 0} (between : S → S → Type 0) (joins : Joins between) (gives : S → Request
    → Reply → S → Type 0) (s t u : S) (t0 t1 t2 : Talk) (r0 r1 r2 w0 w1 w2 : Option (List ℕ))
    → Turns between gives s t t0 r0 r1 w0 w1 t1 → Turns between gives t u t1 r1 r2 w1 w2 t2
    → Turns between gives s u t0 r0 r2 w0 w2 t2
turns_on between joins gives s t u t0 t1 t2 r0 r1 r2 w0 w1 w2 one two = record {
  taken = one.taken ++ two.taken;
  given = one.given ++ two.given;
  read = Consumes-trans r0 r1 r2 one.taken two.taken one.read two.read;
  writes = Appends-trans w0 w1 w2 one.given two.given one.writes two.writes;
  goes = goes_on between joins gives s t u t0 t1 t2 one.taken two.taken one.given two.given one.goes two.goes;
}

same_came : (a b : Talk) → b.asked ≡ a.asked → b.held ≡ a.held → came b ≡ came a
same_came a b one two = rw (one, two)

-- one more write
pub sends_more : (old mid new : Talk) (w0 w1 w2 : Option (List ℕ)) (n : ℕ) (buf : List ℕ) → Sends old mid w0 w1
    → buf ≡ mid.owed → Appends w1 w2 (take n buf) → new ≡ record mid { owed = drop n mid.owed } → Sends old new w0 w2
sends_more old mid new w0 w1 w2 n buf one same wrote is = rw is (record {
  given = one.given ++ take n mid.owed;
  owed = rw (append_assoc one.given (take n mid.owed) (drop n mid.owed), take-append-drop n mid.owed) one.owed;
  asked = one.asked;
  held = one.held;
  over = one.over;
  writes = Appends-trans w0 w1 w2 one.given (take n mid.owed) one.writes (rw same at wrote);
})

pub few_left : (old given new : List ℕ) → old ≡ given ++ new → length old ≤ most_owed → length new ≤ most_owed
few_left old given new is few = omega (arith, ap length is, length-append given new)

-- ---- requests that are handed over

pub on_none : (a : Option Request) (P : Type 0) → a ≡ None → OnSome a P
on_none None P none = tt
on_none (Some q) P none = absurd cc

pub on_any : (a : Option Request) (P : Type 0) → P → OnSome a P
on_any None P p = tt
on_any (Some q) P p = p

-- the request was handed over before, or now
pub or_new : (a : Option Request) (P : Type 0) → OnSome a P → (a ≡ None → P) → P
or_new None P before now = now refl
or_new (Some q) P before now = before

pub still_under : (a b : Option Request) (P : Type 0) → b ≡ a → OnSome a P → OnSome b P
still_under a b P same on = rw same on

-- ---- the result of a turn

-- nothing is owed
pub none_owed : (is_empty : Bool) (seen owed : List ℕ) → is_empty ≡ true
    → is_empty ≡ (length seen == 0) → seen ≡ owed → owed ≡ []
none_owed is_empty [] owed so by same = sym same
none_owed is_empty (x ∷ xs) owed so by same = absurd (omega (arith, eqb-true (length (x ∷ xs)) 0 (sym by ∙ so)))

-- something is owed
pub some_owed : (is_empty : Bool) (seen owed : List ℕ) → is_empty ≡ false
    → is_empty ≡ (length seen == 0) → seen ≡ owed → owed ≡ [] → ⊥
some_owed is_empty seen owed so by same none = absurd (let e = ap length (same ∙ none) in grind (arith, nat_tests))

pub blocked_apart : Blocked ≡ All → ⊥
blocked_apart wrong = absurd cc

pub failed_apart : Failed ≡ All → ⊥
failed_apart wrong = absurd cc

module _ {S : Type 0} (gives : S → Request → Reply → S → Type 0) where
  pub begins : (s : S) (t : Talk) (r w : Option (List ℕ)) → Turns Stays gives s s t r r w w t
  begins s t r w =
      record { taken = []; given = []; read = Consumes-nil r; writes = Appends-nil w; goes = (rests gives s t).0 }

  pub then_turns : (s t u : S) (t0 t1 t2 : Talk) (r0 r1 r2 w0 w1 w2 : Option (List ℕ))
      → Turns Stays gives s t t0 r0 r1 w0 w1 t1 → Turns Stays gives t u t1 r1 r2 w1 w2 t2
      → Turns Stays gives s u t0 r0 r2 w0 w2 t2
  then_turns = turns_on Stays stays_joins gives

  -- then bytes that are owed are written
  pub then_sends : (s t : S) (t0 t1 t2 : Talk) (r0 r1 w0 w1 w2 : Option (List ℕ))
      → Turns Stays gives s t t0 r0 r1 w0 w1 t1 → Sends t1 t2 w1 w2 → Turns Stays gives s t t0 r0 r1 w0 w2 t2
  then_sends s t t0 t1 t2 r0 r1 w0 w1 w2 one two = then_turns s t t t0 t1 t2 r0 r1 r1 w0 w1 w2 one (record {
    taken = [];
    given = two.given;
    read = Consumes-nil r1;
    writes = two.writes;
    goes = (sends gives t t1 two.given t2 two.owed (same_came t1 t2 two.asked two.held) two.over).0;
  })

  -- then frames are answered
  pub then_answers : (s t u : S) (t0 t1 t2 : Talk) (r0 r1 w0 w1 : Option (List ℕ))
      → Turns Stays gives s t t0 r0 r1 w0 w1 t1 → Goes Stays gives t u t1 [] [] t2
      → Turns Stays gives s u t0 r0 r1 w0 w1 t2
  then_answers s t u t0 t1 t2 r0 r1 w0 w1 one two = then_turns s t u t0 t1 t2 r0 r1 r1 w0 w1 w1 one
      (record { taken = []; given = []; read = Consumes-nil r1; writes = Appends-nil w1; goes = two })

  -- a round: bytes that are owed are written, and frames are answered
  pub then_round : (s t u : S) (t0 t1 t2 t3 : Talk) (r0 r1 w0 w1 w2 : Option (List ℕ))
      → Turns Stays gives s t t0 r0 r1 w0 w1 t1 → Sends t1 t2 w1 w2 → Goes Stays gives t u t2 [] [] t3
      → Turns Stays gives s u t0 r0 r1 w0 w2 t3
  then_round s t u t0 t1 t2 t3 r0 r1 w0 w1 w2 one sent goes =
      then_answers s t u t0 t2 t3 r0 r1 w0 w2 (then_sends s t t0 t1 t2 r0 r1 w0 w1 w2 one sent) goes

  -- then bytes are read and taken in
  pub then_takes : (s t : S) (t0 t1 t2 : Talk) (r0 r1 r2 w0 w1 : Option (List ℕ)) (piece : List ℕ)
      → Turns Stays gives s t t0 r0 r1 w0 w1 t1 → t1.over ≡ None → Consumes r1 r2 piece
      → HasTaken t1 piece t2 → Turns Stays gives s t t0 r0 r2 w0 w1 t2
  then_takes s t t0 t1 t2 r0 r1 r2 w0 w1 piece one going read taken =
      then_turns s t t t0 t1 t2 r0 r1 r2 w0 w1 w1 one (record {
        taken = piece;
        given = [];
        read = read;
        writes = Appends-nil w1;
        goes = (takes gives t t1 piece t2 going taken).0;
      })

  -- then a read returns nothing
  pub then_ends : (s t : S) (t0 t1 : Talk) (r0 r1 r2 w0 w1 : Option (List ℕ)) → Turns Stays gives s t t0 r0 r1 w0 w1 t1
      → Consumes r1 r2 [] → Turns Stays gives s t t0 r0 r2 w0 w1 t1
  then_ends s t t0 t1 r0 r1 r2 w0 w1 one read = record {
    taken = one.taken;
    given = one.given;
    read = rw append-nil at (Consumes-trans r0 r1 r2 one.taken [] one.read read);
    writes = one.writes;
    goes = one.goes;
  }

  -- a session ends with its last turn
  pub serves : (s t u : S) (mid last : Talk) (r0 r1 r2 w0 w1 w2 : Option (List ℕ)) (end : End)
      → Turns Stays gives s t start r0 r1 w0 w1 mid → Turns Stays gives t u mid r1 r2 w1 w2 last
      → EndsAt end last r2 → Serves gives s u r0 r2 w0 w2 end
  serves s t u mid last r0 r1 r2 w0 w1 w2 end one two at =
      record { last = last; turns = then_turns s t u start mid last r0 r1 r2 w0 w1 w2 one two; ends = at }

  -- the invariant of a turn: its bytes are those of a run, few are owed and held, and a request is handed over with the
  -- connection's key
  pub record Stood (hands_over one : Type 0)
      (more : ℕ) (s t : S) (old new : Talk) (r0 r1 w0 w1 : Option (List ℕ)) : Type 0 where
    pub turns : Turns Stays gives s t old r0 r1 w0 w1 new
    pub bounded : length old.owed ≤ most_owed → length new.owed ≤ most_owed
    pub free : (hands_over → ⊥) → old.asked ≡ None → new.asked ≡ None
    pub under : old.asked ≡ None → OnSome new.asked one
    pub held : HoldsFrameAnd more old → HoldsFrameAnd more new

  -- the invariant still holds after bytes that are owed are written
  pub stood_sent : (hands_over one : Type 0) (more : ℕ) (s t : S) (old mid new : Talk)
      (r0 r1 w0 w1 w2 : Option (List ℕ)) → Stood hands_over one more s t old mid r0 r1 w0 w1 → Sends mid new w1 w2
      → Stood hands_over one more s t old new r0 r1 w0 w2
  stood_sent hands_over one more s t old mid new r0 r1 w0 w1 w2 stood sent = record {
    turns = then_sends s t old mid new r0 r1 w0 w1 w2 stood.turns sent;
    bounded = λ few. few_left _ _ _ sent.owed (stood.bounded few);
    free = λ no at. sent.asked ∙ stood.free no at;
    under = λ none. still_under _ _ _ sent.asked (stood.under none);
    held = λ small. holds_sent more mid new w1 w2 sent (stood.held small);
  }
