-- The abstract states that a node represents.
use Rattle.std.specs.Prelude.{◌≡◌, ℕ, ◌+◌, ◌<◌, ◌≤◌, List, length, Some, slice_get}
use Rattle.snap_disk.specs.Device.{IsSettled}
use Rattle.snap_slot.specs.Findings.{IsFound}
use Rattle.snap_history.specs.declared.limits.TheConstants.{MAX_COUNT}
use Rattle.snap_world.specs.inside.Drives.{DrivesStand, DrivesDown, device_of}
use Rattle.snap_world.specs.{Machine.State, inside.Stands.ActorsStand, inside.Steps.phases_of_actors}
use Rattle.snap_world.specs.declared.{drive.Drive.Drive, node.WorldNode.WorldNode, node.NodePhase.NodePhase}
use Rattle.snap_world.specs.declared.{node.OpeningCall.OpeningCall, actors.Actors.Actors, register.Register.Register}
use Rattle.snap_world.specs.declared.{writer.WriterActor.WriterActor, scanner.ScannerActor.ScannerActor}
use Rattle.snap_world.specs.declared.node.NodePhase.TheVariants.{Up, Down, Restarting, Ready}
use Rattle.snap_world.specs.declared.node.OpeningCall.TheVariants as opening
use Rattle.snap_world.specs.declared.writer.WriterPhase.TheVariants as writer
use Rattle.snap_world.specs.declared.scanner.ScannerPhase.TheVariants as scanner

-- the sizes of the actors' buffers, and how many writers and scanners there are
pub record IsSized (w : Actors) (x : State) : Type 0 where
  pub least : 0 < w.segments
  pub most : w.segments ≤ MAX_COUNT
  pub registers_n : length w.registers.items ≡ w.segments
  pub views_n : (i : ℕ) (r : Register) → slice_get w.registers.items i ≡ Some r → length r.view.items ≡ w.segments
  pub writers_n : length w.writers.items ≡ w.segments
  pub writers : length w.writers.items ≡ length x.writers
  pub writers_memory : (i : ℕ) (a : WriterActor) → slice_get w.writers.items i ≡ Some a
      → length a.collector.memory.items ≡ w.segments
  pub scanners : length w.scanners.items ≡ length x.scanners
  pub scanners_memory : (i : ℕ) (a : ScannerActor) → slice_get w.scanners.items i ≡ Some a
      → length a.collector.memory.items ≡ w.segments

-- while it is up, its actors and each device represent the state
pub record IsUp (actors : Actors) (drives : List Drive) (x : State) : Type 0 where
  pub actors_stand : ActorsStand actors x
  pub drives_stand : DrivesStand actors.segments x.history x.writers (phases_of_actors actors).writers drives

-- all actors are idle
pub record ActorsRest (w : Actors) (x : State) : Type 0 where
  pub sized : IsSized w x
  pub writers : (i : ℕ) (a : WriterActor) → slice_get w.writers.items i ≡ Some a → a.phase ≡ writer.Idle
  pub scanners : (i : ℕ) (a : ScannerActor) → slice_get w.scanners.items i ≡ Some a → a.phase ≡ scanner.Idle

-- while it is down
pub record IsDown (actors : Actors) (drives : List Drive) (x : State) : Type 0 where
  pub actors_rest : ActorsRest actors x
  pub drives_down : DrivesDown actors.segments x.history x.writers drives

-- while it restarts: the first `synced` devices have no open place, and each of the first `read`
-- results is what its device holds
pub record IsRecovering (actors : Actors) (drives : List Drive) (x : State)
    (synced read : ℕ) : Type 0 where
  pub down : IsDown actors drives x
  pub settled : (i : ℕ) (d : Drive) → slice_get drives i ≡ Some d → i < synced → IsSettled (device_of d)
  pub found : (i : ℕ) (d : Drive) → slice_get drives i ≡ Some d → i < read
      → IsFound i actors.segments (device_of d).bytes d.found

abbrev pub IsRestarting : Actors → List Drive → State → ℕ → OpeningCall → Type 0
IsRestarting actors drives x i opening.Sync = IsRecovering actors drives x i i
IsRestarting actors drives x i opening.Read = IsRecovering actors drives x (i + 1) i

abbrev pub IsNodeAt : Actors → List Drive → State → NodePhase → Type 0
IsNodeAt actors drives x Up = IsUp actors drives x
IsNodeAt actors drives x Down = IsDown actors drives x
IsNodeAt actors drives x (Restarting i call) = (i < actors.segments) × IsRestarting actors drives x i call
IsNodeAt actors drives x Ready = IsRecovering actors drives x actors.segments actors.segments

pub record NodeStands (w : WorldNode) (x : State) : Type 0 where
  pub drives_n : length w.drives.items ≡ w.actors.segments
  pub at : IsNodeAt w.actors w.drives.items x w.phase

-- the node represents some state
abbrev pub NodeStand : WorldNode → Type 0
NodeStand w = ∥ ((x : State) × NodeStands w x) ∥₁
