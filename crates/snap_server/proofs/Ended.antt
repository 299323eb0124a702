-- The result of a server whose threads have ended.
use Rattle.std.proofs.Common.{◌≡◌, ℕ, Bool, true, false, not, ◌&&◌, Result, Ok, Err, IfOk, OnOk, if◌then◌else◌, refl}
use Rattle.snap_server.specs.Announced.{Announced, end_of, was_announced}
use Rattle.snap_server.specs.declared.fault.RunFault.{RunFault, TheVariants.Server, TheVariants.Announcement}
use Rattle.snap_server.specs.declared.fault.ServerFault.TheVariants as faults

-- it is the result of accepting, or one of its threads has failed
pub ended : (P : Result ℕ RunFault → Type 0) (r : Result ℕ RunFault) (has_failed : Bool)
    → P r → P (Err (Server faults.PollFailed)) → P (end_of r has_failed)
ended P r has_failed kept failed = by (has_failed && was_announced r)
  where
    by : (b : Bool) → P (if b then Err (Server faults.PollFailed) else r)
    by true = failed
    by false = kept

-- what was announced is announced, whether or not a thread has failed
pub ended_announced : {T : Type 0} (announces fails : T → T → Type 0) (old new : T) (r : Result ℕ RunFault)
    (has_failed : Bool) → Announced announces fails old r new → Announced announces fails old (end_of r has_failed) new
ended_announced announces fails old new r false is = is
ended_announced announces fails old new (Ok k) true is = is
ended_announced announces fails old new (Err (Announcement why)) true is = is
ended_announced announces fails old new (Err (Server faults.AcceptFailed)) true is = is
ended_announced announces fails old new (Err (Server faults.PollFailed)) true is = is
ended_announced announces fails old new (Err (Server faults.NoPoll)) true is = is
ended_announced announces fails old new (Err (Server faults.NoThread)) true is = is
ended_announced announces fails old new (Err (Server faults.NoMemory)) true is = is

-- it is a number only if all threads have served
pub ended_served : {W : Type 0} (Q : Type 0) (r : Result ℕ RunFault) (has_served : Bool) → OnOk r W
    → (W → has_served ≡ true → Q) → OnOk (end_of r (not has_served)) Q
ended_served Q (Ok k) true whole gives = gives whole refl
ended_served Q (Err why) true whole gives = tt
ended_served Q (Ok k) false whole gives = tt
ended_served Q (Err why) false whole gives = ended (λ r. OnOk r Q) (Err why) true tt tt

-- what holds with this listener holds with one that is left
pub left_behind : {L : Type 0} (P : ℕ → L → Type 0) (r : Result ℕ RunFault) (left : L)
    → IfOk r (λ k. P k left) → IfOk r (λ k. (last : L) × P k last)
left_behind P (Ok k) left known = (left, known)
left_behind P (Err why) left known = tt
