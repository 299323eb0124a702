-- What a writer has stored was there at the opening or was asked for.
use Rattle.std.specs.Prelude.{◌≡◌, ◌⊎◌, ℕ, ◌+◌, List, [], Some, None, slice_get}
use Rattle.snap_memory.specs.Seat.{own_of, number_in, value_in}
use Rattle.snap_writer.specs.Writer.{WriterState}

-- the writer's file has the number and the value that it had at the opening
abbrev pub HoldsFound : {D : Type 0} → WriterState D → Type 0
HoldsFound w = (w.segment.number ≡ number_in w.seat [] (own_of w.seat))
    × (w.segment.value ≡ value_in w.seat [] (own_of w.seat))

-- The writer's file has what it had at the opening, or the number and the value of an update that was asked for; and if
-- a store has failed, it was that of such an update.
pub record StoresAsked {D : Type 0} (asked : ℕ → ℕ → List ℕ → Type 0) (w : WriterState D) : Type 0 where
  pub stored : HoldsFound w ⊎ asked (own_of w.seat) w.segment.number w.segment.value
  pub begun : (v : List ℕ) → w.segment.begun ≡ Some v → asked (own_of w.seat) (w.segment.number + 1) v

-- the writer's file is as it was opened
pub record IsAsOpened {D : Type 0} (w : WriterState D) : Type 0 where
  pub found : HoldsFound w
  pub unfenced : w.segment.begun ≡ None

abbrev pub AreAsOpened : {D : Type 0} → List (WriterState D) → Type 0
AreAsOpened {D} writers = (i : ℕ) (w : WriterState D) → slice_get writers i ≡ Some w → IsAsOpened w
