-- The steps of a session.
use Rattle.std.proofs.Common.{◌≡◌, inl, inr, ℕ, ◌≤◌, List, [], ◌∷◌, ◌++◌, length, Option, Some, None, Bool, true}
use Rattle.std.proofs.Common.{false, refl, sym, ◌∙◌, ap, arith, append-nil, append_assoc, length-append}
use Rattle.snap_frame.specs.Messages.{max_payload, frame, payload, says, IsAskable, IsInLimits}
use Rattle.snap_frame.specs.Stream.{HasFrame, HasLongLength}
use Rattle.snap_frame.specs.declared.frame_buffer.FrameFault.TheVariants.{TooLarge, NoMemory}
use Rattle.snap_frame.specs.declared.{request.Request.Request, reply.Reply.Reply, frame_buffer.FrameFault.FrameFault}
use Rattle.snap_session.specs.Talk.{refused_too_large, Talk, Goes, GoesBy, Stays, Answer, Phase, HasTaken, Owes}
use Rattle.snap_session.specs.Talk.{frames, came, asked_bytes}

abbrev pub owed_of : Talk → List ℕ
owed_of t = t.owed

abbrev pub over_of : Talk → Option FrameFault
over_of t = t.over

abbrev pub asked_of : Talk → Option Request
asked_of t = t.asked

phase_same : (a : Option FrameFault) (rest held : List ℕ) → held ≡ rest → Phase a a [] [] [] [] rest held []
phase_same None rest held same = (refl, refl, same)
phase_same (Some w) rest held same = (refl, refl, refl, refl, refl, refl)

pub taken_asked : (old : Talk) (piece : List ℕ) (new : Talk) → HasTaken old piece new → new.asked ≡ old.asked
taken_asked old piece new (inl is) = ap asked_of is
taken_asked old piece new (inr none) = ap asked_of none

pub taken_owed : (old : Talk) (piece : List ℕ) (new : Talk) → HasTaken old piece new → new.owed ≡ old.owed
taken_owed old piece new (inl is) = ap owed_of is
taken_owed old piece new (inr none) = ap owed_of none

pub came_free : (t : Talk) → t.asked ≡ None → came t ≡ t.held
came_free t free = rw free

pub came_asked : (t : Talk) (q : Request) → t.asked ≡ Some q → came t ≡ frame (payload q) ++ t.held
came_asked t q is = rw is

-- the first frame that is held is the first one that arrived
pub found_first : (old mid : Talk) (x : List ℕ) → old.asked ≡ None → HasFrame old.held x mid.held
    → mid.asked ≡ old.asked → came old ≡ frame x ++ came mid
found_first old mid x free found same = grind (arith, came_free)

-- after an answer bytes are owed, unless the session is over, and no request is handed over
pub owes_turn : (old : Talk) (y : List ℕ) (new : Talk) (ok : Bool) → Owes old y new ok
    → old.asked ≡ None → (new.asked ≡ None) × (new.over ≡ None → new.owed ≡ [] → ⊥)
owes_turn old y new true owes free = (
  ap asked_of owes ∙ free,
  λ going none. absurd (omega (arith, simp length-append at (ap length (sym (ap owed_of owes) ∙ none)))),
)
owes_turn old y new false owes free = (
  ap asked_of owes ∙ free,
  λ going none. let wrong : Some NoMemory ≡ None = sym (ap over_of owes) ∙ going in absurd cc,
)

-- the held bytes don't change
pub owes_held : (old : Talk) (y : List ℕ) (new : Talk) (ok : Bool) → Owes old y new ok → new.held ≡ old.held
owes_held old y new true owes = ap (λ (z : Talk). z.held) owes
owes_held old y new false owes = ap (λ (z : Talk). z.held) owes

module _ {S : Type 0} (gives : S → Request → Reply → S → Type 0) where
  -- nothing is answered, and `tail` is owed
  unanswered : (s : S) (old : Talk) (taken given tail : List ℕ) (new : Talk) → given ++ new.owed ≡ old.owed ++ tail
      → Phase old.over new.over taken [] [] [] (came old ++ taken) (came new) tail
      → GoesBy 0 Stays gives s s old taken given new
  unanswered s old taken given tail new said phase = (
    record {
      payloads = [];
      replies = [];
      unsaid = [];
      rest = came old ++ taken;
      tail = tail;
      run = refl;
      cut = refl;
      said = said;
      phase = phase;
    },
    omega arith,
  )

  -- the bytes that arrived don't change, and some that are owed are written
  pub sends : (s : S) (old : Talk) (given : List ℕ) (new : Talk) → old.owed ≡ given ++ new.owed
      → came new ≡ came old → new.over ≡ old.over → GoesBy 0 Stays gives s s old [] given new
  sends s old given new owed same over = unanswered s old [] given [] new (sym owed ∙ sym (append-nil old.owed))
      (rw over (phase_same old.over (came old ++ []) (came new) (same ∙ sym (append-nil (came old)))))

  -- nothing happens
  pub rests : (s : S) (t : Talk) → GoesBy 0 Stays gives s s t [] [] t
  rests s t = sends s t [] t refl refl refl

  -- memory runs out before anything is answered
  pub gives_up : (s : S) (old : Talk) (taken : List ℕ) (new : Talk) → old.over ≡ None
      → new.owed ≡ old.owed → new.over ≡ Some NoMemory → GoesBy 0 Stays gives s s old taken [] new
  gives_up s old taken new going owed over =
      unanswered s old taken [] [] new (owed ∙ sym (append-nil old.owed)) (rw (going, over) (omega arith, refl))

  -- bytes are taken in
  pub takes : (s : S) (old : Talk) (piece : List ℕ) (new : Talk) → old.over ≡ None
      → HasTaken old piece new → GoesBy 0 Stays gives s s old piece [] new
  takes s old piece new going (inl is) =
      unanswered s old piece [] [] new (ap owed_of is ∙ sym (append-nil old.owed)) (rw (going, ap over_of is ∙ going)
      (refl, refl, ap came is ∙ sym (append_assoc (asked_bytes old.asked) old.held piece)))
  takes s old piece new going (inr none) = gives_up s old piece new going (ap owed_of none) (ap over_of none)

  -- a frame is answered, and its reply is owed, or memory for it ran out
  answered_one : (s t : S) (old mid new : Talk) (x y : List ℕ) (ys us : List (List ℕ)) → ys ++ us ≡ y ∷ []
      → came old ≡ frame x ++ came mid → Answer gives s x y t → new.owed ≡ old.owed ++ (frames ys ++ [])
      → Phase old.over new.over [] (x ∷ []) ys us (came mid) (came new) [] → GoesBy 1 Stays gives s t old [] [] new
  answered_one s t old mid new x y ys us one found answer said phase = (
    record {
      payloads = x ∷ [];
      replies = ys;
      unsaid = us;
      rest = came mid;
      tail = [];
      run = rw one (s, t, refl, answer, refl);
      cut = append-nil (came old) ∙ found ∙ ap (λ zs. zs ++ came mid) (sym (append-nil (frame x)));
      said = said;
      phase = phase;
    },
    omega arith,
  )

  -- a frame is answered
  pub answers : (s t : S) (old mid new : Talk) (x y : List ℕ) (ok : Bool) → old.over ≡ None
      → came old ≡ frame x ++ came mid → mid.owed ≡ old.owed → mid.over ≡ None → Answer gives s x y t
      → Owes mid y new ok → GoesBy 1 Stays gives s t old [] [] new
  answers s t old mid new x y true going found owed over answer owes =
      answered_one s t old mid new x y (y ∷ []) [] refl found answer
      (ap owed_of owes ∙ ap (λ zs. zs ++ frame y) owed ∙ simp append-nil)
      (rw (going, ap over_of owes ∙ over) (refl, refl, ap came owes))
  answers s t old mid new x y false going found owed over answer owes =
      answered_one s t old mid new x y [] (y ∷ []) refl found answer
      (ap owed_of owes ∙ owed ∙ sym (append-nil old.owed)) (rw (going, ap over_of owes) (omega arith, refl))

  -- a length above the limit is refused
  pub refuses : (s : S) (old mid new : Talk) (ok : Bool) → old.over ≡ None → HasLongLength (came old)
      → mid ≡ record old { over = Some TooLarge } → Owes mid refused_too_large new ok
      → GoesBy 0 Stays gives s s old [] [] new
  refuses s old mid new true going long is owes = unanswered s old [] [] (frame refused_too_large) new
      (ap owed_of owes ∙ ap (λ zs. zs ++ frame refused_too_large) (ap owed_of is))
      (rw (going, ap over_of owes ∙ ap over_of is, append-nil) (refl, refl, long))
  refuses s old mid new false going long is owes =
      gives_up s old [] new going (ap owed_of owes ∙ ap owed_of is) (ap over_of owes)

  -- a request is handed over
  pub hands : (s : S) (old mid new : Talk) (x : List ℕ) (q : Request) → old.over ≡ None
      → old.asked ≡ None → HasFrame old.held x mid.held → x ≡ payload q → mid.owed ≡ old.owed
      → mid.over ≡ None → new ≡ record mid { asked = Some q } → GoesBy 0 Stays gives s s old [] [] new
  hands s old mid new x q going free found asks owed over is = grind (arith, sends, came_free)

  -- a request that was handed over is answered
  pub finishes : (s t : S) (old mid new : Talk) (q : Request) (r : Reply) (ok : Bool) → old.over ≡ None
      → old.asked ≡ Some q → mid ≡ record old { asked = None } → gives s q r t → IsInLimits r
      → length (payload q) ≤ max_payload → IsAskable q → Owes mid (says r) new ok → Goes Stays gives s t old [] [] new
  finishes s t old mid new q r ok going asked is given limits fits askable owes =
      (answers s t old mid new (payload q) (says r) ok going
      (came_asked old q asked ∙ ap (λ zs. frame (payload q) ++ zs) (sym (ap came is))) (ap owed_of is)
      (ap over_of is ∙ going) (fits, inl (q, r, (askable, refl), given, (limits, refl))) owes).0

  -- no request is handed over, so the outcome is dropped
  pub nobody : (s : S) (t : Talk) → t.asked ≡ None → Goes Stays gives s s t [] [] (record t { asked = None })
  nobody s t free = (sends s t [] (record t { asked = None }) refl (sym (came_free t free)) refl).0

  -- the bound of answered frames may be raised
  pub by_more : (s t : S) (old : Talk) (taken given : List ℕ) (new : Talk) (m n : ℕ) → m ≤ n
      → GoesBy m Stays gives s t old taken given new → GoesBy n Stays gives s t old taken given new
  by_more s t old taken given new m n more goes = (goes.0, omega (arith, more, goes.1))
