use Rattle.std.proofs.Common.{◌≡◌, ℕ, ◌<◌, ◌≤◌, length, get_or}
use Rattle.snap_service.specs.metrics.Numbers.{raised}
use Rattle.snap_service.proofs.metrics.worker.merge_numbers.Given as goal

abbrev pub invariant-loop-place : goal.invariant-loop-place
invariant-loop-place l = (length l.numbers ≡ length l.initial.numbers)
    × ((k : ℕ) → k < l.place → get_or l.numbers k 0 ≡ raised (get_or l.initial.numbers k 0) (get_or l.others k 0))
    × ((k : ℕ) → l.place ≤ k → get_or l.numbers k 0 ≡ get_or l.initial.numbers k 0)
