-- How long the first write of a held device waits.
use Rattle.std.specs.Prelude.{ℕ, ◌≡◌, ◌≤◌, ◌↔◌, Option}
use Rattle.snap_devices.specs.declared.{held.Held.Held, held.Waited.Waited, memory.MemDisk.MemDisk}

abbrev pub held_disk : Held → MemDisk
held_disk held = held.disk

-- for how many turns of yielding the first write may wait
abbrev pub held_turns : Held → ℕ
held_turns held = held.turns

-- how it waited, once there was one
abbrev pub held_waited : Held → Option Waited
held_waited held = held.waited

-- a write waited until it saw the flag set, or else for all of these turns
abbrev pub IsWait : ℕ → Waited → Type 0
IsWait turns waited = (waited.turns ≤ turns) × (waited.flag ≡ 0 ↔ waited.turns ≡ turns)
