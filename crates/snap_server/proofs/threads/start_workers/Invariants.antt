use Rattle.std.proofs.Common.{◌≡◌, ◌++◌, length, map}
use Rattle.std.specs.Vec.Iter.{into_iter_items, into_iter_len}
use Rattle.snap_server.proofs.threads.start_workers.Given as goal

abbrev pub invariant-workers : goal.invariant-workers
invariant-workers g l = record {
  made : map (λ one. one.promise.worker.value) l.threads.items ++ into_iter_items l.worker-iterator
      ≡ l.fn.workers.items;
  long : into_iter_len l.worker-iterator ≡ length (into_iter_items l.worker-iterator);
}
