use Rattle.std.proofs.Common.{◌≡◌, ℕ, ◌+◌, ◌<◌, Some, slice_get}
use Rattle.snap_frame.specs.declared.named.NamedValue.{NamedValue}
use Rattle.snap_frame.proofs.named.ascend.Given as goal

abbrev pub invariant-loop-i : goal.invariant-loop-i
invariant-loop-i l = (p : ℕ) (a b : NamedValue) → p + 1 < l.i → slice_get l.values p ≡ Some a
    → slice_get l.values (p + 1) ≡ Some b → a.segment < b.segment
