use Rattle.std.proofs.Common.{◌≡◌, ℕ, ◌<◌, length, slice_get, Some}
use Rattle.snap_scan.specs.Sets.{Names}
use Rattle.snap_register.specs.{Held.held, Held.view_in, Words.behind, Words.size_at, Steps.view_of, Steps.IsSame}
use Rattle.snap_register.proofs.access.Access.view.Given as goal

abbrev pub invariant-loop-k : goal.invariant-loop-k
invariant-loop-k l = record {
  same : IsSame l.initial.self l.self;
  long : length l.out-inside.segments.items ≡ length l.initial.out-inside.segments.items;
  at : l.at ≡ behind (held (view_of l.initial.self) l.j) (size_at (held (view_of l.initial.self) l.j) 0) l.k;
  view : (i : ℕ) → i < l.k → Names l.set.bits i → slice_get l.out-inside.segments.items i
      ≡ Some (view_in (held (view_of l.initial.self) l.j) i);
  others : (i : ℕ) → (Names l.set.bits i → ⊥) → slice_get l.out-inside.segments.items i
      ≡ slice_get l.initial.out-inside.segments.items i;
}
