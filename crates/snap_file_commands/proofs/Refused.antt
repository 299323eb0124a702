-- Why a command was refused, from the refusals that a segment answers.
use Rattle.std.proofs.Common.{rules, ◌≡◌, ℕ, ◌-◌, ◌^◌, List, refl, Option, Err}
use Rattle.std.specs.Io.KnownBytes.{Keeps}
use Rattle.snap_disk.specs.declared.refusal.Refusal.TheVariants.{TooLong, Fenced, Exhausted, DeviceFailed}
use Rattle.snap_disk.specs.{Device.Device, declared.refusal.Refusal.Refusal}
use Rattle.snap_slot.specs.{Layout.Head, Layout.Holds, Findings.IsNoOpening}
use Rattle.snap_segment.specs.{Refusals.IsStoreRefusal, Refusals.IsOpenRefusal}
use Rattle.snap_file_commands.specs.{Commands.End, Commands.EndsStore, Effects.StoreKeeps}
use Rattle.snap_file_commands.specs.{Effects.PutKeeps, declared.fault.CommandFault.TheVariants.Refused}

module _ (honest : Type 0) (i n : ℕ) (v : List ℕ) (old new : Device) (out out' : Option (List ℕ)) where
  pub refused_store : (why : Refusal) → IsStoreRefusal why → (why ≡ TooLong → ⊥) → (why ≡ Fenced → ⊥)
      → (why ≡ Exhausted → honest → Head old.bytes i n × ((u : List ℕ) × Holds old.bytes (2 ^ 63 - 1) u))
      → Keeps out out' → EndsStore honest i n v old new out out' (Err (Refused why))
  refused_store TooLong is long fenced last keeps = absurd (long refl)
  refused_store Fenced is long fenced last keeps = absurd (fenced refl)
  refused_store Exhausted is long fenced last keeps = (last refl, keeps)
  refused_store DeviceFailed is long fenced last keeps = ((λ _. tt), keeps)
  refused_store why is long fenced last keeps = absurd is

  pub refused_open : (why : Refusal) → IsOpenRefusal why → (honest → IsNoOpening i n old.bytes why)
      → Keeps out out' → EndsStore honest i n v old new out out' (Err (Refused why))
  refused_open TooLong is not_open keeps = absurd is
  refused_open Exhausted is not_open keeps = absurd is
  refused_open DeviceFailed is not_open keeps = ((λ _. tt), keeps)
  refused_open why is not_open keeps = (not_open, keeps)

-- a put keeps what its store keeps
pub put_keeps : (honest same segment kept : Type 0) (i n : ℕ) (v : List ℕ) (old new : Device)
    (out out' : Option (List ℕ)) (end : End) → (segment → kept) → EndsStore honest i n v old new out out' end
    → StoreKeeps segment end → PutKeeps same kept end
put_keeps honest same segment kept i n v old new out out' end weaker ends keeps = search rules
