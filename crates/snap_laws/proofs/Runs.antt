-- Runs of a service: what it replied during a run is in what it has seen after the run.
use Rattle.std.proofs.Common.{ℕ, inl, inr, List, [], ◌∷◌, ◌++◌}
use Rattle.snap_history.{specs.History.Update, specs.History.IsBeginning, proofs.Beginnings.beginning-trans}
use Rattle.snap_register.specs.{History.starts, Rule.segments, Seat.Known}
use Rattle.snap_session.specs.Talk.{Answer, Run, Stays, Moves}
use Rattle.snap_service.specs.Answers.{Answers}
use Rattle.snap_laws.proofs.Replies.{Sees, sees_same, sees_then, answered}
use Rattle.snap_laws.{specs.Told.AreTold, specs.Laws.SessionLaw, proofs.Payloads.told}

answer_sees : (a b : Known) (x y : List ℕ) → Answer Answers a x y b → Sees a b
answer_sees a b x y (fits, inl is) = answered a b is.0 is.1 is.3
answer_sees a b x y (fits, inr malformed) = sees_same a b malformed.1

run_sees : (between : Known → Known → Type 0) → ((a b : Known) → between a b → Sees a b)
    → (a b : Known) (xs ys : List (List ℕ)) → Run between Answers a xs ys b → Sees a b
run_sees between sees a b [] [] run = sees a b run
run_sees between sees a b (x ∷ xs) (y ∷ ys) run = sees_then a run.0 b (sees a run.0 run.2)
    (sees_then run.0 run.1 b (answer_sees run.0 run.1 x y run.3) (run_sees between sees run.1 b xs ys run.4))
run_sees between sees a b xs ys run = absurd run

moves_sees : (a b : Known) → Moves Answers a b → Sees a b
moves_sees a b moves = run_sees Stays sees_same a b moves.0 moves.1 moves.2

run_told : (a b : Known) (h : List Update) (xs ys : List (List ℕ)) → Run (Moves Answers) Answers a xs ys b
    → IsBeginning b.seen h → AreTold (segments b.plan) (starts b.plan) h xs ys
run_told a b h [] [] run seen = tt
run_told a b h (x ∷ xs) (y ∷ ys) run seen =
    let later = run_sees (Moves Answers) moves_sees run.1 b xs ys run.4 in (
      rw later.0 (told run.0 run.1 h x y run.3 (beginning-trans run.1.seen b.seen h later.1 seen)),
      run_told run.1 b h xs ys run.4 seen,
    )
run_told a b h xs ys run seen = absurd run

pub session_told : SessionLaw
session_told b s h seen = run_told s.began b h s.turns.goes.payloads
    (s.turns.goes.replies ++ s.turns.goes.unsaid) s.turns.goes.run seen
