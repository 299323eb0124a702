-- Updates that are sent to a storer.
use Rattle.std.specs.Prelude.{ℕ, List, []}

-- the worker whose desk sent it, the key of its request, and the update: its segment, number and value
pub record JobState : Type 0 where
  pub worker : ℕ
  pub key : ℕ
  pub segment : ℕ
  pub number : ℕ
  pub value : List ℕ

-- the job for a worker's request with this key: an update of this segment to this number and value
abbrev pub job_of : ℕ → ℕ → ℕ → ℕ → List ℕ → JobState
job_of worker key segment number value =
    record { worker = worker; key = key; segment = segment; number = number; value = value }

-- the job that is named if none is meant
abbrev pub no_job : JobState
no_job = job_of 0 0 0 0 []
