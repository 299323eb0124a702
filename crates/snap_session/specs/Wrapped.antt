-- A service that wraps another one: its sessions are sessions on the inner service.
use Rattle.std.specs.Prelude.{◌≡◌, ℕ, List, Option}
use Rattle.snap_frame.specs.declared.{request.Request.Request, reply.Reply.Reply}
use Rattle.snap_session.specs.Talk.{Talk, Stays, Moves}
use Rattle.snap_session.specs.Turns.{Turns}

-- each answer of the wrapper is an answer of the inner service, whose state is part of its own
abbrev pub AnswersAs : {S T : Type 0} → (S → T) → (S → Request → Reply → S → Type 0)
    → (T → Request → Reply → T → Type 0) → Type 0
AnswersAs {S} inner outer gives = (a b : S) (q : Request) (r : Reply) → outer a q r b → gives (inner a) q r (inner b)

-- the same conversation on both services: equal requests and replies, over equal bytes
pub record IsSameTalk {S T : Type 0} {stays : S → S → Type 0} {moves : T → T → Type 0}
    {outer : S → Request → Reply → S → Type 0} {gives : T → Request → Reply → T → Type 0}
    {s0 s1 : S} {t0 t1 : T} {old new : Talk} {r0 r1 w0 w1 : Option (List ℕ)}
    (a : Turns stays outer s0 s1 old r0 r1 w0 w1 new)
    (b : Turns moves gives t0 t1 old r0 r1 w0 w1 new) : Type 0 where
  pub taken : b.taken ≡ a.taken
  pub given : b.given ≡ a.given
  pub payloads : b.goes.payloads ≡ a.goes.payloads
  pub replies : b.goes.replies ≡ a.goes.replies
  pub unsaid : b.goes.unsaid ≡ a.goes.unsaid

module _ {S T : Type 0} (outer : S → Request → Reply → S → Type 0)
    (gives : T → Request → Reply → T → Type 0) where
  -- turns of a session that has the wrapper to itself are such turns on the inner service
  abbrev pub AloneLaw : Type 0
  AloneLaw = (inner : S → T) → AnswersAs inner outer gives → (s t : S) (old new : Talk) (r0 r1 w0 w1 : Option (List ℕ))
      → (a : Turns Stays outer s t old r0 r1 w0 w1 new)
      → (b : Turns Stays gives (inner s) (inner t) old r0 r1 w0 w1 new) × IsSameTalk a b

  -- turns of a session that shares the wrapper with others are such turns on the inner service
  abbrev pub SharedLaw : Type 0
  SharedLaw = (inner : S → T) → AnswersAs inner outer gives → (s t : S) (old new : Talk) (r0 r1 w0 w1 : Option (List ℕ))
      → (a : Turns (Moves outer) outer s t old r0 r1 w0 w1 new)
      → (b : Turns (Moves gives) gives (inner s) (inner t) old r0 r1 w0 w1 new) × IsSameTalk a b
