-- Counters, and how much a request may add to them.
use Rattle.std.specs.Prelude.{◌≡◌, ℕ, ◌+◌, ◌%◌, ◌^◌, ◌<◌, ◌≤◌, ◌⊎◌, List, length}
use Rattle.snap_history.specs.{declared.limits.TheConstants.MAX_VALUE_LEN, Limits.IsShort}
use Rattle.snap_memory.specs.{Rule.segments, Seat.Known}
use Rattle.snap_frame.specs.declared.request.Request.{Request}
use Rattle.snap_frame.specs.declared.request.Request.TheVariants as request

-- one more, modulo 2^64
abbrev pub next_count : ℕ → ℕ
next_count k = (k + 1) % 2 ^ 64

-- a node's scanner, how many locks of writers the node took, and how many updates it did under them
pub record NodeState : Type 0 where
  pub scanner : Known
  pub locks : ℕ
  pub updates : ℕ

-- no lock was taken, and no update was done
pub record CountsNothing (old new : NodeState) : Type 0 where
  pub locks : new.locks ≡ old.locks
  pub updates : new.updates ≡ old.updates

-- at most one look was taken
abbrev pub LooksOnce : Known → Known → Type 0
LooksOnce a b = a.left ≤ b.left + 1

-- segment i isn't one of n, or the value is too long
abbrev pub IsMisplaced : ℕ → ℕ → List ℕ → Type 0
IsMisplaced n i v = (n ≤ i) ⊎ (MAX_VALUE_LEN < length v)

-- one lock was taken and one update done, with at most one look
pub record CountsOne (old new : NodeState) : Type 0 where
  pub locks : new.locks ≡ next_count old.locks
  pub updates : new.updates ≡ next_count old.updates
  pub looks : LooksOnce old.scanner new.scanner

-- an update is done once by its writer, under one lock, or not at all if its place is refused
abbrev pub CountsUpdate : NodeState → ℕ → List ℕ → NodeState → Type 0
CountsUpdate old i v new = (IsMisplaced (segments old.scanner.plan) i v × (new ≡ old))
    ⊎ ((i < segments old.scanner.plan) × IsShort v × CountsOne old new)

-- An update is done once by its writer or not at all, as `CountsUpdate` says; no other request changes a writer. A scan
-- takes no lock.
abbrev pub Counts : NodeState → Request → NodeState → Type 0
Counts old (request.Update segment k v) new = CountsUpdate old segment v new
Counts old request.Scan new = CountsNothing old new
Counts old request.Status new = new.updates ≡ old.updates
Counts old (request.Part set) new = CountsNothing old new

-- an update takes at most one look, also if its writer isn't used
abbrev pub TakesFewLooks : Known → Request → Known → Type 0
TakesFewLooks a (request.Update segment k v) b = LooksOnce a b
TakesFewLooks a request.Scan b = Unit {0}
TakesFewLooks a request.Status b = Unit {0}
TakesFewLooks a (request.Part set) b = Unit {0}
