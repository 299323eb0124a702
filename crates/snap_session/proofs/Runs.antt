-- Runs one after another.
use Rattle.std.proofs.Common.{◌≡◌, ℕ, List, [], ◌∷◌, ◌++◌, refl, sym, ◌∙◌, ap, append_assoc}
use Rattle.snap_frame.specs.{declared.request.Request.Request, Messages.frame, declared.reply.Reply.Reply}
use Rattle.snap_session.specs.Talk.{frames, Run, Stays, Moves}

pub frames-append : (xs ys : List (List ℕ)) → frames (xs ++ ys) ≡ frames xs ++ frames ys
frames-append [] ys = refl
frames-append (x ∷ xs) ys =
    ap (λ zs. frame x ++ zs) (frames-append xs ys) ∙ sym (append_assoc (frame x) (frames xs) (frames ys))

-- `between` is transitive.
abbrev pub Joins : {S : Type 0} → (S → S → Type 0) → Type 0
Joins {S} between = (a b c : S) → between a b → between b c → between a c

pub stays_joins : {S : Type 0} (a b c : S) → Stays a b → Stays b c → Stays a c
stays_joins a b c one two = two ∙ one

module _ {S : Type 0} (between : S → S → Type 0) (joins : Joins between)
    (gives : S → Request → Reply → S → Type 0) where
  -- a change by `between` before a run joins it
  pub run_after : (a b c : S) (xs ys : List (List ℕ)) → between a b → Run between gives b xs ys c
      → Run between gives a xs ys c
  run_after a b c [] [] one two = joins a b c one two
  run_after a b c (x ∷ xs) (y ∷ ys) one two = (two.0, two.1, joins a b two.0 one two.2, two.3, two.4)
  run_after a b c xs ys one two = absurd two

  -- a change by `between` after a run joins it
  pub run_then : (a b c : S) (xs ys : List (List ℕ)) → Run between gives a xs ys b → between b c
      → Run between gives a xs ys c
  run_then a b c [] [] one two = joins a b c one two
  run_then a b c (x ∷ xs) (y ∷ ys) one two = (one.0, one.1, one.2, one.3, run_then one.1 b c xs ys one.4 two)
  run_then a b c xs ys one two = absurd one

  pub run_on : (a b c : S) (xs ys vs ws : List (List ℕ)) → Run between gives a xs ys b
      → Run between gives b vs ws c → Run between gives a (xs ++ vs) (ys ++ ws) c
  run_on a b c [] [] vs ws one two = run_after a b c vs ws one two
  run_on a b c (x ∷ xs) (y ∷ ys) vs ws one two = (one.0, one.1, one.2, one.3, run_on one.1 b c xs ys vs ws one.4 two)
  run_on a b c xs ys vs ws one two = absurd one

pub moves_joins : {S : Type 0} (gives : S → Request → Reply → S → Type 0) (a b c : S)
    → Moves gives a b → Moves gives b c → Moves gives a c
moves_joins gives a b c one two =
    (one.0 ++ two.0, one.1 ++ two.1, run_on Stays stays_joins gives a b c one.0 one.1 two.0 two.1 one.2 two.2)

-- a run without other sessions in between is also one in which there may be some
pub loosen : {S : Type 0} (gives : S → Request → Reply → S → Type 0) (a b : S) (xs ys : List (List ℕ))
    → Run Stays gives a xs ys b → Run (Moves gives) gives a xs ys b
loosen gives a b [] [] one = ([], [], one)
loosen gives a b (x ∷ xs) (y ∷ ys) one = (one.0, one.1, ([], [], one.2), one.3, loosen gives one.1 b xs ys one.4)
loosen gives a b xs ys one = absurd one
