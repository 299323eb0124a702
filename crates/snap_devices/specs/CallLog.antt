-- The calls on a device whose bytes no code can know, and what it means that each did what the model says.
use Rattle.std.specs.Prelude.{◌≡◌, ◌⊎◌, ℕ, ◌≤◌, ◌<◌, Bool, false, ◌||◌, List, [], ◌∷◌, ◌++◌, length, take, replicate}
use Rattle.std.proofs.Common.{inl, inr, arith}
use Rattle.snap_disk.specs.Device.{Device, in_range, part, MayLeave, IsUnchanged, IsTouched, IsSynced, IsUnsynced}
use Rattle.snap_devices.specs.declared.file.Call.TheVariants.{Gave, ReadFailed, Wrote, WriteFailed, Synced, SyncFailed}
use Rattle.snap_devices.specs.{Story.Story, declared.file.Call.Call}

-- the first len bytes, with zeros for those that lack
unfoldable pub fit : ℕ → List ℕ → List ℕ
fit len bytes = take len (bytes ++ replicate len 0)

-- the places that are open after these calls, of which the newest comes first
abbrev pub open_after : (ℕ → Bool) → List Call → ℕ → Bool
open_after first [] p = first p
open_after first (Gave at bytes ∷ earlier) p = open_after first earlier p
open_after first (ReadFailed ∷ earlier) p = open_after first earlier p
open_after first (Wrote at bytes ∷ earlier) p = in_range at (length bytes.items) p || open_after first earlier p
open_after first (WriteFailed at count ∷ earlier) p = in_range at count p || open_after first earlier p
open_after first (Synced ∷ earlier) p = false
open_after first (SyncFailed ∷ earlier) p = open_after first earlier p

-- the device after these calls
abbrev pub device_after : ℕ → Story → List Call → Device
device_after len story calls = record {
  bytes = fit len (story.held (length calls));
  is_open = open_after story.open_at_first calls;
}

-- this call did what a device's call does
abbrev pub IsHonestCall : Call → Device → Device → Type 0
IsHonestCall (Gave at bytes) old new = IsUnchanged old new × (bytes.items ≡ part at (length bytes.items) old.bytes)
IsHonestCall ReadFailed old new = IsUnchanged old new
IsHonestCall (Wrote at bytes) old new = IsTouched at (length bytes.items) old new
    × (part at (length bytes.items) new.bytes ≡ bytes.items)
IsHonestCall (WriteFailed at count) old new = IsTouched at count old new
IsHonestCall Synced old new = IsSynced old new
IsHonestCall SyncFailed old new = IsUnsynced old new

-- so did each of them
abbrev pub IsHonestLog : ℕ → Story → List Call → Type 0
IsHonestLog len story [] = Unit {0}
IsHonestLog len story (e ∷ earlier) = IsHonestLog len story earlier × IsHonestCall e (device_after len story earlier)
    (device_after len story (e ∷ earlier))

-- a crash after call t or later could have left b
abbrev pub LeftSince : ℕ → Story → List Call → ℕ → List ℕ → Type 0
LeftSince len story [] t b = (t ≤ 0) × MayLeave (device_after len story []) b
LeftSince len story (e ∷ earlier) t b = ((t ≤ length (e ∷ earlier)) × MayLeave (device_after len story (e ∷ earlier)) b)
    ⊎ LeftSince len story earlier t b

pub counts_now : (len : ℕ) (story : Story) (calls : List Call) (t : ℕ) (b : List ℕ)
    → t ≤ length calls → MayLeave (device_after len story calls) b → LeftSince len story calls t b
counts_now len story [] t b le now = (le, now)
counts_now len story (e ∷ earlier) t b le now = inl (le, now)

not_before : (len : ℕ) (story : Story) (calls : List Call) (t : ℕ) (b : List ℕ)
    → length calls < t → LeftSince len story calls t b → ⊥
not_before len story [] t b later left = absurd (omega (arith, left.0))
not_before len story (e ∷ earlier) t b later (inl now) = absurd (omega (arith, now.0))
not_before len story (e ∷ earlier) t b later (inr past) = not_before len story earlier t b (omega arith) past

pub only_now : (len : ℕ) (story : Story) (calls : List Call) (b : List ℕ)
    → LeftSince len story calls (length calls) b → MayLeave (device_after len story calls) b
only_now len story [] b left = left.1
only_now len story (e ∷ earlier) b (inl now) = now.1
only_now len story (e ∷ earlier) b (inr past) =
    absurd (not_before len story earlier (length (e ∷ earlier)) b (omega arith) past)
