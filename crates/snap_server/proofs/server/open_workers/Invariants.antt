use Rattle.std.proofs.Common.{◌≡◌, ◌≤◌, ◌+◌, ◌++◌, length, map}
use Rattle.std.specs.{Prelude.vec_len, Prelude.vec_capacity, List.range_with_len}
use Rattle.std.specs.Vec.Iter.{into_iter_items, into_iter_len}
use Rattle.snap_server.proofs.server.open_workers.Given as goal

abbrev pub invariant-services : goal.invariant-services
invariant-services g l = record {
  made : map (λ one. one.sessions.service.service) l.workers.items ++ into_iter_items l.service-iterator
      ≡ l.fn.services.items;
  places : map (λ one. one.mailbox.place) l.workers.items ≡ range_with_len 0 (length l.workers.items);
  theirs : map (λ one. one.place) l.senders.items ≡ range_with_len 0 (length l.senders.items);
  senders : length l.senders.items ≡ length l.workers.items;
  room : (vec_len l.workers + into_iter_len l.service-iterator ≤ vec_capacity l.workers)
      × (vec_len l.senders + into_iter_len l.service-iterator ≤ vec_capacity l.senders);
  long : into_iter_len l.service-iterator ≡ length (into_iter_items l.service-iterator);
}
