use Rattle.std.proofs.Common.{◌≡◌, ◌+◌, ◌≤◌, ◌++◌, ◌∷◌, length, map}
use Rattle.std.specs.{Prelude.vec_capacity, Vec.Iter.into_iter_items, Vec.Iter.into_iter_len}
use Rattle.snap_restart.proofs.files.returned.Given as goal

abbrev pub invariant-rest : goal.invariant-rest
invariant-rest g l = record {
  long : into_iter_len l.device-iterator ≡ length (into_iter_items l.device-iterator);
  items : l.devices.items ++ into_iter_items l.device-iterator ≡ map (λ s. s.device) l.fn.segments.items ++ l.fn.refused
      ∷ into_iter_items l.fn.rest;
  room : length l.devices.items + into_iter_len l.device-iterator ≤ vec_capacity l.devices;
}
