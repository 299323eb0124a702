-- A migration finds the value that the old file holds.
use Rattle.std.proofs.Common.{◌≡◌, ℕ, List, ◌∙◌}
use Rattle.snap_slot.{specs.Findings.value_in, specs.Old.old_slot_of, specs.OldFound.IsOldFound}
use Rattle.snap_slot.{specs.declared.old_recovery.OldFound.OldFound, proofs.OldSame.old_holds_same}
use Rattle.snap_segment.specs.Migration.{OfHeld}

pub of_held : {i n : ℕ} {b file value : List ℕ} {found : OldFound} (P : ℕ → List ℕ → Type 0) → IsOldFound i n file found
    → file ≡ b → value ≡ value_in file (old_slot_of found.number) found.length → P found.number value → OfHeld b P
of_held {i} {n} {b} {file} {value} {found} P is given copied here k v holds =
    let same = old_holds_same file found.number k
    (value_in file (old_slot_of found.number) found.length) v is.held.holds (rw given holds) in
    rw (← same.0, ← (copied ∙ same.1)) here
