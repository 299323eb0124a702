use Rattle.std.proofs.Common.{◌≡◌, ◌<◌, All, ℕ, length, map, slice_get, slice_index}
use Rattle.snap_order.specs.Limits.{MAX_COUNT}
use Rattle.snap_args.specs.Numbers.{IsNumberOf}
use Rattle.snap_args.proofs.watch.segments_of.Given as goal

-- the segments so far are the numbers of the arguments so far
abbrev pub invariant-loop-word : goal.invariant-loop-word
invariant-loop-word l = (length l.segments.items ≡ l.word-index) × All (λ s. s < MAX_COUNT) l.segments.items
    × ((k : ℕ) → k < l.word-index
    → IsNumberOf (slice_get (map (λ w. w.now) l.words) k) (slice_index l.segments.items k))
