-- The model of a writer.
use Rattle.std.specs.Prelude.{◌≡◌, ℕ, ◌+◌, List, Option, Some, None}
use Rattle.snap_segment.specs.Segment.{SegmentState}
use Rattle.snap_register.specs.Seat.{Known, own_of, number_in, value_in}
use Rattle.snap_register.specs.declared.plan.UpdatePhase.{UpdatePhase, TheVariants.Shown, TheVariants.Storing}

-- the file, and the seat at the registers
pub record WriterState (D : Type 0) : Type 0 where
  pub segment : SegmentState D
  pub seat : Known

-- the number and value shown last: those of the own segment after all that the seat has seen
abbrev pub number_of : {D : Type 0} → WriterState D → ℕ
number_of w = number_in w.seat w.seat.seen (own_of w.seat)

abbrev pub value_of : {D : Type 0} → WriterState D → List ℕ
value_of w = value_in w.seat w.seat.seen (own_of w.seat)

-- between two calls: a store was begun and has failed, or none was begun
abbrev pub phase_of : Option (List ℕ) → UpdatePhase
phase_of None = Shown
phase_of (Some v) = Storing

-- the file has the number and value shown last, and the seat writes one segment and knows whether a store has failed
pub record IsPaired {D : Type 0} (w : WriterState D) : Type 0 where
  pub number_is : w.segment.number ≡ number_of w
  pub value_is : w.segment.value ≡ value_of w
  pub alone : w.seat.high ≡ w.seat.low + 1
  pub phase_is : w.seat.phase ≡ phase_of w.segment.begun
