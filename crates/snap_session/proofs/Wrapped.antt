-- Sessions on a service that wraps another one.
use Rattle.std.proofs.Common.{ℕ, inl, inr, List, [], ◌∷◌, ◌++◌, Option, refl, ap}
use Rattle.snap_frame.specs.declared.{request.Request.Request, reply.Reply.Reply}
use Rattle.snap_session.specs.Talk.{Talk, Answer, Run, Stays, Moves}
use Rattle.snap_session.specs.{Turns.Turns, Wrapped.AnswersAs, Wrapped.IsSameTalk}

module _ {S T : Type 0} (outer : S → Request → Reply → S → Type 0)
    (gives : T → Request → Reply → T → Type 0) (inner : S → T) (is_as : AnswersAs inner outer gives) where
  answer_as : (a b : S) (x y : List ℕ) → Answer outer a x y b → Answer gives (inner a) x y (inner b)
  answer_as a b x y (fits, inl is) = (fits, inl (is.0, is.1, is.2, is_as a b is.0 is.1 is.3, is.4))
  answer_as a b x y (fits, inr bad) = (fits, inr (bad.0, ap inner bad.1, bad.2))

  run_as : (before : S → S → Type 0) (between : T → T → Type 0) → ((a b : S) → before a b → between (inner a) (inner b))
      → (a b : S) (xs ys : List (List ℕ)) → Run before outer a xs ys b → Run between gives (inner a) xs ys (inner b)
  run_as before between maps a b [] [] run = maps a b run
  run_as before between maps a b (x ∷ xs) (y ∷ ys) run = (
    inner run.0,
    inner run.1,
    maps a run.0 run.2,
    answer_as run.0 run.1 x y run.3,
    run_as before between maps run.1 b xs ys run.4,
  )
  run_as before between maps a b xs ys run = absurd run

  pub moves_as : (a b : S) → Moves outer a b → Moves gives (inner a) (inner b)
  moves_as a b (xs, ys, run) = (xs, ys, run_as Stays Stays (λ _ _ same. ap inner same) a b xs ys run)

  turns_as : (before : S → S → Type 0) (between : T → T → Type 0)
      → ((a b : S) → before a b → between (inner a) (inner b)) → (s t : S) (old new : Talk)
      (r0 r1 w0 w1 : Option (List ℕ)) → (a : Turns before outer s t old r0 r1 w0 w1 new)
      → (b : Turns between gives (inner s) (inner t) old r0 r1 w0 w1 new) × IsSameTalk a b
  turns_as before between maps s t old new r0 r1 w0 w1 a = (
    record {
      taken = a.taken;
      given = a.given;
      read = a.read;
      writes = a.writes;
      goes = record {
        payloads = a.goes.payloads;
        replies = a.goes.replies;
        unsaid = a.goes.unsaid;
        rest = a.goes.rest;
        tail = a.goes.tail;
        run = run_as before between maps s t a.goes.payloads (a.goes.replies ++ a.goes.unsaid) a.goes.run;
        cut = a.goes.cut;
        said = a.goes.said;
        phase = a.goes.phase;
      };
    },
    record { taken = refl; given = refl; payloads = refl; replies = refl; unsaid = refl },
  )

  pub alone : (s t : S) (old new : Talk) (r0 r1 w0 w1 : Option (List ℕ))
      → (a : Turns Stays outer s t old r0 r1 w0 w1 new)
      → (b : Turns Stays gives (inner s) (inner t) old r0 r1 w0 w1 new) × IsSameTalk a b
  alone = turns_as Stays Stays (λ _ _ same. ap inner same)

  pub shared : (s t : S) (old new : Talk) (r0 r1 w0 w1 : Option (List ℕ))
      → (a : Turns (Moves outer) outer s t old r0 r1 w0 w1 new)
      → (b : Turns (Moves gives) gives (inner s) (inner t) old r0 r1 w0 w1 new) × IsSameTalk a b
  shared = turns_as (Moves outer) (Moves gives) moves_as
