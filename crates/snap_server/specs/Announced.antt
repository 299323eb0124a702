-- Whether a server was announced, by its result.
use Rattle.std.specs.Prelude.{◌≡◌, ◌&&◌, ℕ, Bool, true, false, if◌then◌else◌, Option, Some, Result, Ok, Err, IfOk}
use Rattle.std.specs.Prelude.{IfErr, OnOk}
use Rattle.snap_server.specs.declared.fault.RunFault.{RunFault, TheVariants.Server, TheVariants.Announcement}
use Rattle.snap_server.specs.declared.fault.ServerFault.TheVariants as faults

-- A server that has served was announced before, once. A server that got no thread, no event queue or no memory wasn't.
abbrev pub Announced : {T : Type 0} (announces fails : T → T → Type 0) (old : T)
    → Result ℕ RunFault → (new : T) → Type 0
Announced announces fails old (Ok k) new = announces old new
Announced announces fails old (Err (Announcement why)) new = fails old new
Announced announces fails old (Err (Server faults.AcceptFailed)) new = announces old new
Announced announces fails old (Err (Server faults.PollFailed)) new = announces old new
Announced announces fails old (Err (Server faults.NoPoll)) new = old ≡ new
Announced announces fails old (Err (Server faults.NoThread)) new = old ≡ new
Announced announces fails old (Err (Server faults.NoMemory)) new = old ≡ new

-- How the threads of a server ended: as many connections as were asked for were delivered, each worker served, the
-- listener failed only if it may, and the server was announced before.
pub record HasRun {L T : Type 0} (connections : Option ℕ) (gives : ℕ → L → L → Type 0) (serves refuses : Type 0)
    (announces fails : T → T → Type 0) (listener : L) (old : T) (result : Result ℕ RunFault) (new : T) : Type 0 where
  pub asked : IfOk result (λ k. connections ≡ Some k)
  pub deals : IfOk result (λ k. (left : L) × gives k listener left)
  pub served : OnOk result serves
  pub deaf : IfErr result (λ why. why ≡ Server faults.AcceptFailed → refuses)
  pub announced : Announced announces fails old result new

-- a server with this result was announced
abbrev pub was_announced : Result ℕ RunFault → Bool
was_announced (Ok k) = true
was_announced (Err (Announcement why)) = false
was_announced (Err (Server faults.AcceptFailed)) = true
was_announced (Err (Server faults.PollFailed)) = true
was_announced (Err (Server faults.NoPoll)) = false
was_announced (Err (Server faults.NoThread)) = false
was_announced (Err (Server faults.NoMemory)) = false

-- the result of the server, if one of its threads may have failed
abbrev pub end_of : Result ℕ RunFault → (has_failed : Bool) → Result ℕ RunFault
end_of served has_failed =
    if has_failed && was_announced served then Err (Server faults.PollFailed) else served
