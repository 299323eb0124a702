use Rattle.std.proofs.Common.{◌≡◌, ℕ, ◌<◌, slice_get, Some}
use Rattle.snap_history.specs.Pairs.{Pairs}
use Rattle.snap_register.specs.Seat.{Grows}
use Rattle.snap_restart.specs.Closed.{IsTold, HasMet}
use Rattle.snap_restart.proofs.shutdown.meet_all.Given as goal

abbrev pub invariant-loop-i : goal.invariant-loop-i
invariant-loop-i g l = record {
  writers : Pairs (λ _. HasMet) l.fn.writers.items l.writers.items;
  scanner : Grows l.fn.scanner l.scanner;
  told : (j : ℕ) (w : _) → slice_get l.fn.writers.items j ≡ Some w → j < l.i → IsTold w.seat l.fn.scanner l.scanner;
}
