use Rattle.std.proofs.Common.{◌≡◌, ℕ, ◌<◌, slice_get, Some}
use Rattle.snap_history.specs.{History.IsBeginning, Pairs.Pairs}
use Rattle.snap_register.specs.Seat.{Known, Grows}
use Rattle.snap_restart.specs.Closed.{HasMet}
use Rattle.snap_restart.proofs.shutdown.hear_all.Given as goal

abbrev pub invariant-loop-k : goal.invariant-loop-k
invariant-loop-k g l = record {
  writer : HasMet l.fn.writer l.writer;
  scanners : Pairs (λ _. Grows) l.fn.scanners.items l.scanners.items;
  heard : (j : ℕ) (b : Known) → slice_get l.fn.scanners.items j ≡ Some b → j < l.k
      → IsBeginning b.seen l.writer.seat.seen;
}
