-- The phases of a world: of its node, of its writers and scanners, and of the stores on its devices.
use Rattle.std.specs.Prelude.{◌≡◌, ◌⊎◌, ℕ, ◌+◌, ◌^◌, ◌<◌, nat_lt, true, if◌then◌else◌, List, [], ◌∷◌, ◌++◌, length}
use Rattle.std.specs.Prelude.{replicate, Some, slice_get, slice_set}
use Rattle.snap_scan.specs.{Looks.IsDecided, Sets.size}
use Rattle.snap_history.specs.History.{from_nothing, number_after}
use Rattle.snap_history.specs.{declared.limits.TheConstants.LAST_NUMBER, Limits.IsShort}
use Rattle.snap_world.specs.Machine.{State, WriterState, Opened}
use Rattle.snap_world.specs.Answers.{ScanState, all_of, set_of}
use Rattle.snap_world.specs.Phases.{Phases, WriterIs, ScannerIs, writer_to, scanner_to}
use Rattle.snap_world.specs.Calls.{store_call, opening_kind}
use Rattle.snap_world.specs.declared.event.Event.TheVariants.{Begin, Look, Show, Acknowledge, Scan, Pick, Answer, Call}
use Rattle.snap_world.specs.declared.event.Event.TheVariants.{Fail, Crash, Restart, RestartCall, RestartFail, Serve}
use Rattle.snap_world.specs.declared.event.Reply.TheVariants.{Begun, Number, Shown, Stored, ScanBegun, Called}
use Rattle.snap_world.specs.declared.event.Reply.TheVariants.{DeviceFailed, Crashed, Restarting as Restarting_reply}
use Rattle.snap_world.specs.declared.event.Reply.TheVariants.{Memory, Part, NotNow}
use Rattle.snap_world.specs.declared.node.NodePhase.TheVariants.{Up, Down, Restarting, Ready}
use Rattle.snap_world.specs.declared.{scanner.Asked.Asked, event.Event.Event, event.Reply.Reply}
use Rattle.snap_world.specs.declared.{node.NodePhase.NodePhase, node.OpeningCall.OpeningCall}
use Rattle.snap_persist.specs.{declared.persist.NextCall.NextCall, Stage.store_calls}
use Rattle.snap_world.specs.declared.event.Actor.TheVariants as actor
use Rattle.snap_world.specs.declared.node.OpeningCall.TheVariants as opening
use Rattle.snap_world.specs.declared.writer.WriterPhase.TheVariants as writer
use Rattle.snap_world.specs.declared.scanner.ScannerPhase.TheVariants as scanner

-- `calls` has for each segment the device calls that are left of the current store, or of the next one
pub record WorldPhases : Type 0 where
  pub node : NodePhase
  pub actors : Phases
  pub calls : List (List NextCall)

-- a node that is up, with these writers and scanners and no device
abbrev pub up : Phases → WorldPhases
up actors = record { node = Up; actors = actors; calls = [] }

-- how many segments there are
abbrev pub segments_in : WorldPhases → ℕ
segments_in p = length p.calls

-- the set names at least one segment, and only existing ones
abbrev pub IsChoice : Phases → ℕ → Type 0
IsChoice p set = (0 < set) × (set < 2 ^ length p.writers)

-- in state x with phases p the event may come; writers and scanners act only while the node is up
abbrev pub MayCome : State → WorldPhases → Event → Type 0
MayCome x p (Begin w v) = (p.node ≡ Up) × WriterIs p.actors w writer.Idle × IsShort v.items
    × (number_after from_nothing x.history w < LAST_NUMBER)
MayCome x p (Look (actor.Writer w)) = (p.node ≡ Up) × WriterIs p.actors w writer.Scanning
MayCome x p (Look (actor.Scanner i)) = (p.node ≡ Up) × ScannerIs p.actors i scanner.Scanning
MayCome x p (Call w) = (p.node ≡ Up) × WriterIs p.actors w writer.Storing
MayCome x p (Fail w fill) = (p.node ≡ Up) × WriterIs p.actors w writer.Storing
MayCome x p (Show w) = (p.node ≡ Up) × WriterIs p.actors w writer.Stored
MayCome x p (Acknowledge w) = (p.node ≡ Up) × WriterIs p.actors w writer.Shown
MayCome x p (Scan i) = (p.node ≡ Up) × ScannerIs p.actors i scanner.Idle
MayCome x p (Pick i set) = (p.node ≡ Up) × ScannerIs p.actors i scanner.Idle × IsChoice p.actors set.bits
MayCome x p (Answer i) = (p.node ≡ Up) × ScannerIs p.actors i scanner.Ready
-- a crash comes with a fill for each device
MayCome x p (Crash fills) = length fills.items ≡ segments_in p
MayCome x p Restart = p.node ≡ Down
-- a restart makes its calls while one is left
MayCome x p RestartCall = (i : ℕ) × (call : OpeningCall) × (p.node ≡ Restarting i call)
MayCome x p (RestartFail fill) = (i : ℕ) × (call : OpeningCall) × (p.node ≡ Restarting i call)
-- and serves once they are made
MayCome x p Serve = p.node ≡ Ready

-- the reply is `NotNow` exactly if the event may not come
pub record TellsWhether (x : State) (p : WorldPhases) (event : Event) (reply : Reply) : Type 0 where
  pub refused : reply ≡ NotNow → MayCome x p event → ⊥
  pub came : (reply ≡ NotNow → ⊥) → MayCome x p event

-- the phases with those of writers and scanners changed, or with the node's
abbrev pub actors_to : WorldPhases → Phases → WorldPhases
actors_to p actors = record p { actors = actors }

abbrev pub node_to : WorldPhases → NodePhase → WorldPhases
node_to p node = record p { node = node }

-- after a look of a scan of this set the phases become r if the numbers read decide an answer, and stay otherwise
pub record LooksOn {P : Type 0} (set : ℕ) (told : List ℕ) (p r q : P) : Type 0 where
  pub ends : IsDecided (size set) told → q ≡ r
  pub goes_on : (IsDecided (size set) told → ⊥) → q ≡ p
  pub either : (q ≡ r) ⊎ (q ≡ p)

-- the phases after a call with these ones left; once none is left the update is stored, and the
-- next store finds its spare gate open
abbrev pub AfterCall : WorldPhases → ℕ → List NextCall → WorldPhases → Type 0
AfterCall p w [] q = q ≡ record p {
  actors = writer_to p.actors w writer.Stored;
  calls = slice_set p.calls w (store_calls true);
}
AfterCall p w (call ∷ calls) q = q ≡ record p { calls = slice_set p.calls w (call ∷ calls) }

-- all actors are idle
abbrev pub all_idle : Phases → Phases
all_idle p = record {
  writers = replicate (length p.writers) writer.Idle;
  scanners = replicate (length p.scanners) scanner.Idle;
}

-- for each segment a restart makes the sync and then the read: the phase after this call at segment i
abbrev pub after_opening_call : ℕ → ℕ → OpeningCall → NodePhase
after_opening_call segments i opening.Sync = Restarting i opening.Read
after_opening_call segments i opening.Read =
    if nat_lt (i + 1) segments then Restarting (i + 1) opening.Sync else Ready

-- in state x with phases p, over n segments, the event with this reply leaves the phases q
abbrev pub PhasesMove : ℕ → State → WorldPhases → Event → Reply → WorldPhases → Type 0
PhasesMove n x p event NotNow q = q ≡ p
PhasesMove n x p (Begin w v) Begun q = q ≡ actors_to p (writer_to p.actors w writer.Scanning)
PhasesMove n x p (Look (actor.Writer w)) (Number k) q = (s : WriterState) → slice_get x.writers w ≡ Some s
    → LooksOn (all_of n) (s.scan.told ++ k ∷ []) p (actors_to p (writer_to p.actors w writer.Storing)) q
PhasesMove n x p (Look (actor.Scanner i)) (Number k) q =
    (asked : Asked) (s : ScanState) → slice_get x.scanners i ≡ Some (Opened asked s)
    → LooksOn (set_of n asked) (s.told ++ k ∷ []) p (actors_to p (scanner_to p.actors i scanner.Ready)) q
PhasesMove n x p (Call w) (Called kind) q =
    (rest : List NextCall) × (slice_get p.calls w ≡ Some (store_call kind ∷ rest)) × AfterCall p w rest q
PhasesMove n x p (Fail w fill) DeviceFailed q = q ≡ record p {
  actors = writer_to p.actors w writer.Fenced;
  calls = slice_set p.calls w [];
}
PhasesMove n x p (Show w) Shown q = q ≡ actors_to p (writer_to p.actors w writer.Shown)
PhasesMove n x p (Acknowledge w) (Stored k) q = q ≡ actors_to p (writer_to p.actors w writer.Idle)
PhasesMove n x p (Scan i) ScanBegun q = q ≡ actors_to p (scanner_to p.actors i scanner.Scanning)
PhasesMove n x p (Pick i set) ScanBegun q = q ≡ actors_to p (scanner_to p.actors i scanner.Scanning)
PhasesMove n x p (Answer i) (Memory m) q = q ≡ actors_to p (scanner_to p.actors i scanner.Idle)
PhasesMove n x p (Answer i) (Part m) q = q ≡ actors_to p (scanner_to p.actors i scanner.Idle)
PhasesMove n x p (Crash fills) Crashed q = q ≡ record p { node = Down; actors = all_idle p.actors }
PhasesMove n x p Restart Restarting_reply q = q ≡ node_to p (Restarting 0 opening.Sync)
PhasesMove n x p RestartCall (Called kind) q =
    (i : ℕ) × (call : OpeningCall) × (p.node ≡ Restarting i call) × (kind ≡ opening_kind call)
    × (q ≡ node_to p (after_opening_call n i call))
PhasesMove n x p (RestartFail fill) DeviceFailed q = q ≡ node_to p Down
-- all actors are idle again
PhasesMove n x p Serve (Memory m) q = (q.node ≡ Up) × (q.actors ≡ all_idle p.actors) × (segments_in q ≡ segments_in p)
-- no other reply is given
PhasesMove n x p event reply q = ⊥

-- the event's reply holds values, and the event may come
abbrev pub NeedsMemory : WorldPhases → Event → Type 0
NeedsMemory p event = ((i : ℕ) × (event ≡ Answer i) × (p.node ≡ Up) × ScannerIs p.actors i scanner.Ready)
    ⊎ ((event ≡ Serve) × (p.node ≡ Ready))

-- with these phases memory can have run out before this one of the events: the first, for the list
-- of replies, or one whose reply holds values
abbrev pub StopsAt : WorldPhases → List Event → ℕ → Type 0
StopsAt p events done = (done ≡ 0) ⊎ ((event : Event) × (slice_get events done ≡ Some event) × NeedsMemory p event)
