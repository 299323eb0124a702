use Rattle.std.proofs.Common.{◌≡◌, ◌+◌, ◌*◌, length, take, slice_index}
use Rattle.snap_register.specs.{Words.bytes_at, Steps.draft_of, Steps.HasDrafted}
use Rattle.snap_register.proofs.access.Access.draft_value.Given as goal

abbrev pub invariant-loop-q : goal.invariant-loop-q
invariant-loop-q l = record {
  same : HasDrafted l.fn.self l.self (draft_of l.self);
  long : length (draft_of l.self) ≡ 2 + l.q;
  number : slice_index (draft_of l.self) 0 ≡ l.number;
  length_is : slice_index (draft_of l.self) 1 ≡ length l.value;
  bytes : bytes_at (draft_of l.self) 2 l.q ≡ take (8 * l.q) l.value;
}
