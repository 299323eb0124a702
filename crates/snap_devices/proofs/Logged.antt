-- One call more.
use Rattle.std.proofs.Common.{◌≡◌, inl, inr, ⊎_elim, ℕ, List, ◌∷◌, length, sym, ◌∙◌, arith, replicate, ◌++◌}
use Rattle.std.proofs.Common.{length-append, length-take}
use Rattle.std.proofs.lemmas.List.{length-replicate}
use Rattle.snap_disk.specs.Device.{Elapses}
use Rattle.snap_devices.specs.CallLog.{fit, device_after, IsHonestCall, IsHonestLog, LeftSince}
use Rattle.snap_devices.specs.{Story.Story, declared.file.Call.Call}

pub length_fit : (len : ℕ) (bytes : List ℕ) → length (fit len bytes) ≡ len
unfolding fit
length_fit len bytes = omega (
  arith,
  length-take len (bytes ++ replicate len 0),
  length-append bytes (replicate len 0),
  length-replicate {A = ℕ} len 0,
)

pub size_same : (len : ℕ) (story : Story) (calls calls' : List Call) → length (device_after len story calls').bytes
    ≡ length (device_after len story calls).bytes
size_same len story calls calls' = length_fit len _ ∙ sym (length_fit len _)

pub elapses : (len : ℕ) (story : Story) (calls calls' : List Call) (e : Call) → calls' ≡ e ∷ calls
    → Elapses (length calls) (length calls') (LeftSince len story calls)
    (LeftSince len story calls') (device_after len story calls')
elapses len story calls calls' e is = rw is record {
  later = omega arith;
  nothing_else = λ t b le left. ⊎_elim (λ now. inr now.1) (λ past. inl past) left;
  keeps = λ t b le past. inr past;
}

-- an honest log says what its newest call did
pub honest : (len : ℕ) (story : Story) (calls calls' : List Call) (e : Call)
    → calls' ≡ e ∷ calls → IsHonestLog len story calls' → IsHonestLog len story calls
    × IsHonestCall e (device_after len story calls) (device_after len story calls')
honest len story calls calls' e is = rw is (λ h. h)

-- what a call that is noted needs
pub ruleset noted = (length_fit, size_same, elapses, honest)
