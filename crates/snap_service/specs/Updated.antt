-- The change of a writer by an update, and by a meeting after it.
use Rattle.std.specs.Prelude.{◌≡◌, ℕ, List, Result}
use Rattle.snap_disk.specs.declared.refusal.Refusal.{Refusal}
use Rattle.snap_memory.specs.Seat.{Known, Meets, own_of}
use Rattle.snap_writer.specs.Writer.{WriterState, number_of}
use Rattle.snap_frame.specs.{declared.reply.Reply.Reply, Messages.IsInLimits}
use Rattle.snap_service.specs.Settled.{reply_of, IsTellable, IsSettledAt}
pub use Rattle.snap_writer.specs.Updated.{IsUpdated}
use Rattle.snap_disk.specs.declared.disk.Disk as Disk

-- the writer took part in a meeting: its file is unchanged, and its seat may have seen more
pub record HasMet {D : Type 0} (old new : WriterState D) : Type 0 where
  pub segment_is : new.segment ≡ old.segment
  pub meets : Meets old.seat new.seat

-- the writer was updated, then it met a scanner, and the reply is the update's result
pub record IsUpdatedAndTold {D : Type 0} (disk : Disk.Ghosts D)
    (old new : WriterState D) (k : ℕ) (v : List ℕ) (reply : Reply) : Type 0 where
  pub told : Result ℕ Refusal
  pub between : WriterState D
  pub updated : IsUpdated disk old between k v told
  pub met : HasMet between new
  pub said : reply ≡ reply_of (number_of new) told

-- The reply is the writer's result, and the scanner met the writer. If the result fits an update of the writer's
-- segment, the reply fits what the scanner has seen.
pub record RepliesTold {D : Type 0} (answer : Result ℕ Refusal) (old new : WriterState D)
    (before after : Known) (reply : Reply) : Type 0 where
  pub told : reply ≡ reply_of (number_of new) answer
  pub number : number_of new ≡ number_of old
  pub settled : (k : ℕ) (v : List ℕ) → IsTellable old k v answer → IsSettledAt after (own_of old.seat) k v reply
  pub limits : (k : ℕ) (v : List ℕ) → IsTellable old k v answer → IsInLimits reply
  pub scanner : Meets before after
  pub writer : HasMet old new
