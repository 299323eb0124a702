use Rattle.std.proofs.Common.{◌≡◌, true, map}
use Rattle.std.specs.Prelude.{All}
use Rattle.snap_server.proofs.threads.have_served.Given as goal

abbrev pub invariant-threads : goal.invariant-threads
invariant-threads g l = l.all ≡ true → All g.K.Work.serves (map (λ one. one.promise.worker.value) l.yielded)
