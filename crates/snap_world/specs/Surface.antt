-- The visible parts of a world, and the relation of its events.
use Rattle.std.specs.Prelude.{◌≡◌, ℕ, List}
use Rattle.snap_disk.specs.Device.{Device}
use Rattle.snap_history.specs.History.{IsBeginning}
use Rattle.snap_world.specs.{Machine.State, Runs.Configuration, Runs.Run, declared.world.World.World}
use Rattle.snap_world.specs.{NodePhases.WorldPhases, inside.NodeSteps.phases_of_node, inside.NodeSteps.devices_of_node}
use Rattle.snap_world.specs.{inside.NodeStands.NodeStands, declared.event.Event.Event, declared.event.Reply.Reply}

-- how many segments the world has
abbrev pub segments_of : World → ℕ
segments_of w = w.node.actors.segments

-- the phases of its node, its writers and scanners, and its stores
abbrev pub phases_of : World → WorldPhases
phases_of w = phases_of_node w.node

-- the device of each segment
abbrev pub devices_of : World → List Device
devices_of w = devices_of_node w.node

-- the world represents this state of the abstract machine
abbrev pub StandsFor : World → State → Type 0
StandsFor w x = NodeStands w.node x

-- this state, with the phases and the devices of the world
abbrev pub configuration : World → State → Configuration
configuration w x = record { state = x; phases = phases_of w; devices = devices_of w }

-- From each state that the old world represented, the events with these replies are a run of the
-- abstract machine, with the phases and devices of the old world and the new one, to a state that
-- the new one represents, whose history was only appended to.
pub record IsRun (old : World) (events : List Event) (replies : List Reply)
    (new : World) : Type 0 where
  pub segments : segments_of new ≡ segments_of old
  pub run : (x : State) → StandsFor old x → (y : State) × Run (segments_of old) (configuration old x) events replies
      (configuration new y) × StandsFor new y × IsBeginning x.history y.history
