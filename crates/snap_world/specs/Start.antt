-- The start of a world: nothing was shown, and all actors are idle.
use Rattle.std.specs.Prelude.{◌≡◌, ℕ, false, List, [], length, replicate, Some, slice_get}
use Rattle.snap_disk.specs.Device.{Device}
use Rattle.snap_slot.specs.States.{IsAtRest}
use Rattle.snap_persist.specs.Stage.{store_calls}
use Rattle.snap_world.specs.Machine.{State, Closed, resting}
use Rattle.snap_world.specs.{NodePhases.WorldPhases, Phases.Phases, declared.node.NodePhase.TheVariants.Up}
use Rattle.snap_world.specs.declared.writer.WriterPhase.TheVariants as writer
use Rattle.snap_world.specs.declared.scanner.ScannerPhase.TheVariants as scanner

abbrev pub start_state : ℕ → ℕ → State
start_state n scanners = record {
  history = [];
  writers = replicate n resting;
  scanners = replicate scanners Closed;
}

abbrev pub start_phases : ℕ → ℕ → Phases
start_phases n scanners = record {
  writers = replicate n writer.Idle;
  scanners = replicate scanners scanner.Idle;
}

-- the node is up, and the spare gate of each segment is closed
abbrev pub start_world_phases : ℕ → ℕ → WorldPhases
start_world_phases n scanners = record {
  node = Up;
  actors = start_phases n scanners;
  calls = replicate n (store_calls false);
}

-- there are n devices, each of them formatted: number 0, the empty value, and a closed spare gate
pub record AreFormatted (n : ℕ) (devices : List Device) : Type 0 where
  pub size : length devices ≡ n
  pub each : (i : ℕ) (d : Device) → slice_get devices i ≡ Some d → IsAtRest i n 0 [] false d
