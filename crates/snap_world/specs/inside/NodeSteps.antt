-- One event of a node.
use Rattle.std.specs.Prelude.{◌≡◌, ℕ, List, map}
use Rattle.std.specs.Global.{Vec}
use Rattle.snap_disk.specs.Device.{Device}
use Rattle.snap_persist.{specs.Stage.calls_left, specs.declared.persist.NextCall.NextCall}
use Rattle.snap_world.specs.{Devices.DevicesMove, Devices.GatesTold, inside.Drives.device_of, Machine.State}
use Rattle.snap_world.specs.{Machine.Step, inside.NodeStands.NodeStands, Phases.WriterIs, inside.Steps.phases_of_actors}
use Rattle.snap_world.specs.NodePhases.{WorldPhases, TellsWhether, PhasesMove}
use Rattle.snap_world.specs.declared.{actors.Actors.Actors, event.Event.Event, event.Reply.Reply}
use Rattle.snap_world.specs.declared.{event.Reply.TheVariants.NotNow, drive.Drive.Drive, node.WorldNode.WorldNode}
use Rattle.snap_world.specs.declared.node.NodePhase.TheVariants.{Up}
use Rattle.snap_world.specs.declared.writer.WriterPhase.TheVariants as writer

-- the devices of the segments, in order
abbrev pub devices_of_node : WorldNode → List Device
devices_of_node w = map device_of w.drives.items

-- the device calls that are left of the current store on it, or of the next one
abbrev pub store_left : Drive → List NextCall
store_left d = calls_left d.persist.stage

abbrev pub phases_of_node : WorldNode → WorldPhases
phases_of_node w = record {
  node = w.phase;
  actors = phases_of_actors w.actors;
  calls = map store_left w.drives.items;
}

-- the store of this segment has a call to make
abbrev pub MayStore : WorldNode → ℕ → Type 0
MayStore node w = (node.phase ≡ Up) × WriterIs (phases_of_actors node.actors) w writer.Storing

-- From each state that the node represented, the event with its reply is a step to one that it
-- represents now, and leaves these devices; the reply says whether the event may come, the phases
-- move by their table, and after `NotNow` nothing has changed.
pub record IsNodeStep (old : WorldNode) (event : Event) (reply : Reply) (new : WorldNode) : Type 0 where
  pub segments : new.actors.segments ≡ old.actors.segments
  pub step : (x : State) → NodeStands old x → (y : State) × Step old.actors.segments x event reply y
      × DevicesMove old.actors.segments x (phases_of_node old) (devices_of_node old) event reply y (devices_of_node new)
      × NodeStands new y
  pub comes : (x : State) → NodeStands old x → TellsWhether x (phases_of_node old) event reply
  pub phases : (x : State) → NodeStands old x
      → PhasesMove old.actors.segments x (phases_of_node old) event reply (phases_of_node new)
  pub gates : (x : State) → NodeStands old x → GatesTold event reply (phases_of_node new) (devices_of_node new)
  pub unchanged : reply ≡ NotNow → new ≡ old

-- the actors with these devices, as a node that is up
abbrev pub node_of : Actors → Vec Drive → WorldNode
node_of actors drives = record { phase = Up; actors = actors; drives = drives }

-- the event of a writer or a scanner, as a step of the node that is up, whatever its devices are
pub record IsActorsStep (old : Actors) (event : Event) (reply : Reply) (new : Actors) : Type 0 where
  pub each : (drives : Vec Drive) → IsNodeStep (node_of old drives) event reply (node_of new drives)
