use Rattle.std.proofs.Common.{arith}
use Rattle.snap_service.proofs.Raised.{raised_each_is}
use Rattle.snap_service.proofs.metrics.worker.merge_numbers.Goals as goal

pub returns : goal.returns
returns c = raised_each_is _ _ _ (omega arith) (omega arith) (λ k low. c.loop-place.invariant.1 k (omega arith))
