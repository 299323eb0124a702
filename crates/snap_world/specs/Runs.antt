-- Runs of the abstract machine, with the phases of the world and its devices.
use Rattle.std.specs.Prelude.{◌≡◌, ℕ, List, [], ◌∷◌}
use Rattle.snap_disk.specs.Device.{Device}
use Rattle.snap_world.specs.NodePhases.{WorldPhases, TellsWhether, PhasesMove}
use Rattle.snap_world.specs.{Devices.DevicesMove, Devices.GatesTold, Machine.State, Machine.Step}
use Rattle.snap_world.specs.{declared.event.Event.Event, declared.event.Reply.Reply}

-- a state of the abstract machine, with the phases of a world and its devices
pub record Configuration : Type 0 where
  pub state : State
  pub phases : WorldPhases
  pub devices : List Device

-- over n segments, the event with this reply leads from configuration a to configuration b: it is a
-- step of the machine, comes exactly if it may, and moves the phases and the devices
pub record Passes (n : ℕ) (a : Configuration) (event : Event) (reply : Reply)
    (b : Configuration) : Type 0 where
  pub step : Step n a.state event reply b.state
  pub comes : TellsWhether a.state a.phases event reply
  pub phases : PhasesMove n a.state a.phases event reply b.phases
  pub devices : DevicesMove n a.state a.phases a.devices event reply b.state b.devices
  pub gates : GatesTold event reply b.phases b.devices

-- these events with these replies lead from configuration a to configuration b
abbrev pub Run : ℕ → Configuration → List Event → List Reply → Configuration → Type 0
Run n a [] [] b = b ≡ a
Run n a (event ∷ events) (reply ∷ replies) b = (c : Configuration) × Passes n a event reply c × Run n c events replies b
Run n a [] (reply ∷ replies) b = ⊥
Run n a (event ∷ events) [] b = ⊥
