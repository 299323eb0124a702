use Rattle.std.proofs.Common.{◌≡◌, ℕ, ◌+◌, ◌*◌, ◌≤◌, length, take}
use Rattle.snap_register.specs.{Held.held, Words.bytes_at, Steps.LiesAt}
use Rattle.snap_register.proofs.words.copy_value.Given as goal

abbrev pub invariant-loop-q : goal.invariant-loop-q
invariant-loop-q l = record {
  table : l.seat.table_id ≡ l.initial.seat.table_id;
  id : l.seat.id ≡ l.initial.seat.id;
  me : l.seat.me ≡ l.initial.seat.me;
  long : length l.out ≡ length l.initial.out;
  bytes : (j at : ℕ) → LiesAt l.initial.seat.me.0 j at l.place → at + 2 + l.count ≤ length (held l.initial.seat.me.0 j)
      → take (8 * l.q) l.out ≡ bytes_at (held l.initial.seat.me.0 j) (at + 2) l.q;
}
