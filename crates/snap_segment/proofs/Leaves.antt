-- What a crash leaves of a run of calls, at any time during it and after it.
use Rattle.std.proofs.Common.{rules, List, ℕ}
use Rattle.snap_disk.specs.Device.{Elapses, MayLeave}
use Rattle.snap_segment.specs.Calls.{Leaves}
use Rattle.snap_disk.specs.Laws as laws
use Rattle.snap_disk.specs.declared.disk.Disk as Disk

module _ {D : Type 0} (disk : Disk.Ghosts D) where
  -- a run of no call
  pub none : (old : D) (P : List ℕ → Type 0) → ((b : List ℕ) → disk.might_have_left old (disk.clock old) b
      → MayLeave (disk.device old) b) → ((b : List ℕ) → MayLeave (disk.device old) b → P b) → Leaves disk old old P
  none old P only here = record { any_time = laws.started disk old P (λ b left. here b (only b left)); now = here }

  -- a run of one call
  pub one : {old new : D} {P : List ℕ → Type 0} → ((b : List ℕ) → disk.might_have_left old (disk.clock old) b
      → MayLeave (disk.device old) b) → ((b : List ℕ) → MayLeave (disk.device old) b → P b) → Elapses (disk.clock old)
      (disk.clock new) (disk.might_have_left old) (disk.might_have_left new) (disk.device new)
      → ((b : List ℕ) → MayLeave (disk.device new) b → P b) → Leaves disk old new P
  one {old} {new} {P} only before time now = search rules

  pub weaker : {old new : D} {P R : List ℕ → Type 0} → Leaves disk old new P
      → ((b : List ℕ) → P b → R b) → Leaves disk old new R
  weaker {old} {new} {P} {R} is from = search rules

  -- one run followed by another
  pub then : {old mid new : D} {P Q R : List ℕ → Type 0} → Leaves disk old mid P → Leaves disk mid new Q
      → ((b : List ℕ) → P b → R b) → ((b : List ℕ) → Q b → R b) → Leaves disk old new R
  then {old} {mid} {new} {P} {Q} {R} first second from_P from_Q = search rules
