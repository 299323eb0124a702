-- The outcome of an update that was sent to a storer.
use Rattle.std.specs.Prelude.{ℕ, Result}
use Rattle.snap_disk.specs.declared.refusal.Refusal.{Refusal}
use Rattle.snap_service.specs.Writer.{WriterState}
use Rattle.snap_service.specs.Job.{JobState}

-- the job, its writer after the update, and the writer's result
pub record Came (D : Type 0) : Type 0 where
  pub job : JobState
  pub writer : WriterState D
  pub told : Result ℕ Refusal
