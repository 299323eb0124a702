-- A crash leaves what one writer has stored, over its whole life and not only during a call.
use Rattle.std.specs.Prelude.{◌≡◌, ◌⊎◌, ℕ, ◌+◌, ◌≤◌, List, ◌∷◌, Some, slice_get}
use Rattle.snap_disk.specs.{Device.MayLeave, Time.LeavesOnly}
use Rattle.snap_slot.specs.Layout.{IsFileOf}
use Rattle.snap_register.specs.declared.plan.Plan.{Plan}
use Rattle.snap_writer.specs.{Writer.WriterState, Life.Lived, Life.IsWriterOf}
use Rattle.snap_disk.specs.declared.disk.Disk as Disk

-- the writer has stored number k with value v, or its store of them has failed
abbrev pub Gave : {D : Type 0} → ℕ → List ℕ → WriterState D → Type 0
Gave k v w = ((k ≡ w.segment.number) × (v ≡ w.segment.value))
    ⊎ ((k ≡ w.segment.number + 1) × (w.segment.begun ≡ Some v))

-- P was true at one of these places of its life
abbrev pub Once : {D : Type 0} → List (WriterState D) → (WriterState D → Type 0) → Type 0
Once {D} life P = (j : ℕ) × (w : WriterState D) × (slice_get life j ≡ Some w) × P w

-- The bytes are the file of segment i of n, and nothing is lost that the writer had stored when it was at a: they hold
-- the number and value stored then, or a later number with the value that the writer gave it in its life since.
pub record Keeps {D : Type 0} (n i : ℕ) (a : WriterState D) (life : List (WriterState D))
    (b : List ℕ) : Type 0 where
  pub number : ℕ
  pub value : List ℕ
  pub file : IsFileOf i n number value b
  pub no_less : a.segment.number ≤ number
  pub same_value : number ≡ a.segment.number → value ≡ a.segment.value
  pub given : Once (a ∷ life) (Gave number value)

module _ {D : Type 0} (disk : Disk.Ghosts D) where
  -- a crash at any time since the writer was at a leaves such a file, and so does a crash now, with the writer at z
  pub record Stays (n i : ℕ) (a : WriterState D) (life : List (WriterState D))
      (z : WriterState D) : Type 0 where
    pub any_time : LeavesOnly disk a.segment.device z.segment.device (Keeps n i a life)
    pub now : (b : List ℕ) → MayLeave (disk.device z.segment.device) b → Keeps n i a life b

  -- this is true wherever a writer's life has brought it
  abbrev pub StaysLaw : Type 0
  StaysLaw = (plan : Plan) (n i : ℕ) (a z : WriterState D) (life : List (WriterState D)) → IsWriterOf disk plan n i a
      → Lived disk a life z → disk.is_honest z.segment.device → Stays n i a life z
