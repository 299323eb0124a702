-- Sending a worker's updates to the storers.
use Rattle.std.specs.Prelude.{◌≡◌, ℕ, List, Some, slice_get}
use Rattle.snap_service.specs.Counted.{next_count}

-- the worker, the segments of its handles in order, and how many updates were sent, modulo 2^64
pub record Handing : Type 0 where
  pub worker : ℕ
  pub handles : List ℕ
  pub sent : ℕ

-- one update was sent, by the handle of this segment
pub record HasHanded (old : Handing) (segment : ℕ) (new : Handing) : Type 0 where
  pub handle : slice_get old.handles segment ≡ Some segment
  pub one : new ≡ record old { sent = next_count old.sent }
