-- The seats of one opening.
use Rattle.std.specs.Prelude.{◌≡◌, ℕ, ◌+◌, List, [], length, slice_get, Some}
use Rattle.snap_history.specs.Limits.{IsNumber}
use Rattle.snap_register.specs.{declared.words.TheConstants.BLOCK_WORDS, declared.plan.Opening.Opening}
use Rattle.snap_register.specs.{declared.plan.Plan.Plan, History.starts, Words.IsBlock, Rule.segments, Seat.Known}
use Rattle.snap_register.specs.{Registers.RegistersId, declared.plan.UpdatePhase.TheVariants.Shown}

-- a seat that has seen nothing yet and has all its looks, and writes the segments from `low` on and below `high`
pub record IsNewSeat (z : RegistersId) (p : Plan) (low high : ℕ) (a : Known) : Type 0 where
  pub table_is : a.table ≡ z
  pub plan_is : a.plan ≡ p
  pub seen_is : a.seen ≡ []
  pub low_is : a.low ≡ low
  pub high_is : a.high ≡ high
  pub left_is : a.left ≡ p.looks
  pub phase_is : a.phase ≡ Shown

-- the writers' seats, in the order of their segments
abbrev pub AreWriters : RegistersId → Plan → List Known → Type 0
AreWriters z p xs = (i : ℕ) (a : Known) → slice_get xs i ≡ Some a → IsNewSeat z p i (i + 1) a

-- seats that write nothing
abbrev pub AreReaders : RegistersId → Plan → List Known → Type 0
AreReaders z p xs = (i : ℕ) (a : Known) → slice_get xs i ≡ Some a → IsNewSeat z p 0 0 a

-- at the start each segment has its number and its value
pub record IsOpening (p : Plan) (looks : ℕ) (values : List (ℕ × List ℕ)) : Type 0 where
  pub segments_are : segments p ≡ length values
  pub looks_are : p.looks ≡ looks
  pub each : (i : ℕ) (x : ℕ × List ℕ) → slice_get values i ≡ Some x → starts p i ≡ x

-- the words have the number and the value
pub record IsPacked (x : ℕ × List ℕ) (o : Opening) : Type 0 where
  pub number_is : o.number ≡ x.0
  pub low : IsNumber x.0
  pub wide : length o.words.items ≡ BLOCK_WORDS
  pub block : IsBlock o.words.items 0 x.0 x.1
