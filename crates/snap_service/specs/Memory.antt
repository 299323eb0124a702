-- Seats of one memory.
use Rattle.std.specs.Prelude.{◌≡◌, ℕ, List, [], length, slice_get, Some}
use Rattle.snap_memory.specs.{Registers.RegistersId, plan.Plan.Plan, Rule.segments, Seat.Known, Seat.own_of}
use Rattle.snap_writer.specs.Writer.{WriterState}

-- the seat belongs to these registers
pub record IsOf (table : RegistersId) (plan : Plan) (a : Known) : Type 0 where
  pub table_is : a.table ≡ table
  pub plan_is : a.plan ≡ plan

-- the number of the memory with these registers: no other has it
abbrev pub number_of : RegistersId → ℕ
number_of table = table.views_name

-- these are the writers of all segments of these registers, in order
pub record AreWriters {D : Type 0} (table : RegistersId) (plan : Plan)
    (writers : List (WriterState D)) : Type 0 where
  pub all : length writers ≡ segments plan
  pub each : (i : ℕ) (w : WriterState D) → slice_get writers i ≡ Some w → IsOf table plan w.seat × (own_of w.seat ≡ i)

-- the plan that is named if no memory is meant
abbrev pub no_plan : Plan
no_plan = record { scanners = 0; looks = 0; block_words = 0; start = [] }
