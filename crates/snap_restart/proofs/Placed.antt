-- A crash leaves of one writer's device what the phase of its seat says.
use Rattle.std.proofs.Common.{◌≡◌, ⊎_elim, ℕ, ◌+◌, inl, inr, List, Option, Some, None, refl, ap, subst}
use Rattle.snap_slot.specs.Layout.{IsFileOf}
use Rattle.snap_register.specs.declared.plan.{Plan.Plan, UpdatePhase.UpdatePhase, UpdatePhase.TheVariants.Shown}
use Rattle.snap_register.specs.declared.plan.UpdatePhase.TheVariants.{Storing, Stored}
use Rattle.snap_writer.specs.{Writer.WriterState, Writer.number_of, Writer.value_of, Life.IsMidStore, Life.IsPlaceOf}
use Rattle.snap_writer.specs.Life.{Place, resting, HasBegun, IsShown, IsAhead, IsInPhase, HoldsOf, Leaves, CrashLeaves}
use Rattle.snap_writer.specs.Life.{IsWriterOf}
use Rattle.snap_restart.specs.LifeCrash.{HoldsIn}
use Rattle.snap_disk.specs.declared.disk.Disk as Disk

-- a file stays the same under equal names
pub same_file : {i j n m k l : ℕ} {v w b : List ℕ} → i ≡ j → n ≡ m → k ≡ l → v ≡ w
    → IsFileOf i n k v b → IsFileOf j m l w b
same_file {b = b} ei en ek ev is = subst (λ (y : ℕ × ℕ × ℕ × List ℕ). IsFileOf y.0 y.1 y.2 y.3 b)
    (λ t. (ei t, en t, ek t, ev t)) is

module _ {D : Type 0} (disk : Disk.Ghosts D) (plan : Plan) (n i : ℕ) where
  -- what a crash leaves in a phase
  abbrev pub LeftIn : Place D → List ℕ → UpdatePhase → Type 0
  LeftIn p b f = HoldsIn i n (number_of p.writer) (value_of p.writer) (HasBegun p) b f

  abbrev pub LeftOf : Place D → List ℕ → Type 0
  LeftOf p b = LeftIn p b Storing

  module _ (w : WriterState D) (b : List ℕ) (is : IsWriterOf disk plan n i w) where
    -- between two stores
    shown_leaves : IsShown w → HoldsOf w.segment b → LeftOf (resting w) b
    shown_leaves shown (inl old) = inl (same_file is.index_is is.count_is shown.0 shown.1 old)
    shown_leaves shown (inr (v, begun, new)) =
        inr (v, inr (inl begun), same_file is.index_is is.count_is (ap (λ (k : ℕ). k + 1) shown.0) refl new)

    ahead_leaves : IsAhead w → HoldsOf w.segment b → LeftIn (resting w) b Stored
    ahead_leaves ahead (inl old) =
        (w.segment.value, inr (inr (ahead, refl)), same_file is.index_is is.count_is ahead.0 refl old)
    ahead_leaves ahead (inr (v, begun, new)) = absurd (let none = ahead.1 in cc)

    resting_leaves : (f : UpdatePhase) → IsInPhase w f → HoldsOf w.segment b → LeftIn (resting w) b f
    resting_leaves Shown (shown, none) (inl old) = same_file is.index_is is.count_is shown.0 shown.1 old
    resting_leaves Shown (shown, none) (inr (v, begun, new)) = absurd cc
    resting_leaves Storing (inl shown) holds = shown_leaves shown holds
    resting_leaves Storing (inr ahead) holds = inr (ahead_leaves ahead holds)
    resting_leaves Stored ahead holds = ahead_leaves ahead holds

    left_in : (storing : Option (List ℕ × D)) → IsMidStore disk w storing → Leaves disk w storing b
        → LeftIn (record { writer = w; storing = storing }) b w.seat.phase
    left_in None mid left = resting_leaves w.seat.phase is.phase_is (is.rests left.0 b left.1)
    left_in (Some s) (phase, shown, either) left = rw phase (
        ⊎_elim (λ old. inl (same_file is.index_is is.count_is shown.0 shown.1 old))
        (λ new. inr (s.0, inl refl, same_file is.index_is is.count_is (ap (λ (k : ℕ). k + 1) shown.0) refl new))
        (either left.0 b left.1))

  pub phase_leaves : (p : Place D) → IsPlaceOf disk plan n i p → (b : List ℕ) → CrashLeaves disk p b
      → LeftIn p b p.writer.seat.phase
  phase_leaves p is b left = left_in p.writer b is.writer_is p.storing is.storing_is left

-- in any phase it is what was shown last or the next number with a begun value
pub in_any : (i n k : ℕ) (u : List ℕ) (begun : List ℕ → Type 0) (b : List ℕ) (f : UpdatePhase)
    → HoldsIn i n k u begun b f → HoldsIn i n k u begun b Storing
in_any i n k u begun b Shown holds = inl holds
in_any i n k u begun b Storing holds = holds
in_any i n k u begun b Stored holds = inr holds
