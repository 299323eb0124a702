-- The reply by an outcome.
use Rattle.std.specs.Prelude.{◌≡◌, ℕ, ◌<◌, List}
use Rattle.snap_memory.specs.{Rule.segments, Seat.own_of}
use Rattle.snap_frame.specs.declared.{request.Request.Request, reply.Reply.Reply}
use Rattle.snap_service.specs.{Writer.number_of, Settled.reply_of}
use Rattle.snap_service.specs.Came.{Came}
use Rattle.snap_frame.specs.declared.request.Request.TheVariants as request

-- the outcome belongs to an update of segment i to number k and value v
pub record IsOutcomeOf {D : Type 0} (came : Came D) (i k : ℕ) (v : List ℕ) : Type 0 where
  pub segment_is : own_of came.writer.seat ≡ i
  pub number_is : came.job.number ≡ k
  pub value_is : came.job.value ≡ v

-- the reply to such an update has the writer's result, if the segment exists
abbrev pub TellsUpdate : {D : Type 0} → Came D → ℕ → ℕ → List ℕ → Reply → Type 0
TellsUpdate came i k v reply = i < segments came.writer.seat.plan → IsOutcomeOf came i k v
    → reply ≡ reply_of (number_of came.writer) came.told

-- The reply to a request has the outcome's result. A scan and a status have no outcome.
abbrev pub Tells : {D : Type 0} → Came D → Request → Reply → Type 0
Tells came (request.Update segment k v) reply = TellsUpdate came segment k v reply
Tells came request.Scan reply = Unit {0}
Tells came (request.Part set) reply = Unit {0}
Tells came request.Status reply = Unit {0}
