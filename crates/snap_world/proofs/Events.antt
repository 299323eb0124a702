-- An event of a writer or a scanner, as a step of the node, with the devices meanwhile; an event that may not come.
-- device i changes
use Rattle.snap_persist.specs.Stage.{PersistState, calls_left, first_stage}
use Rattle.std.proofs.Common.{rules, map, ◌≡◌, ◌≢◌, ℕ, ◌+◌, Bool, false, true, List, [], ◌∷◌, ◌++◌, Some, slice_get}
use Rattle.std.proofs.Common.{slice_set, refl, sym, ◌∙◌, subst, ◌<◌, length, Result, Ok, Err, IfOk}
use Rattle.snap_history.proofs.Moments.{number-push, number-push_other, value-push, value-push_other}
use Rattle.snap_history.specs.History.{Update, from_nothing, number_after, value_after}
use Rattle.snap_world.specs.Machine.{WriterState, State, ScannerState, Step, with_writer, with_scanner}
use Rattle.snap_world.specs.inside.NodeSteps.{IsNodeStep, IsActorsStep, node_of, phases_of_node, devices_of_node}
use Rattle.snap_world.specs.inside.NodeSteps.{store_left}
use Rattle.snap_world.specs.inside.Drives.{IsReady, IsStoreUnderWay, DriveStands, DrivesStand, device_of}
use Rattle.snap_world.specs.inside.NodeStands.{NodeStands, NodeStand, IsUp, IsNodeAt}
use Rattle.snap_world.specs.inside.Stands.{ActorsStand, Stand, WriterStands, ScannerStands}
use Rattle.snap_world.specs.NodePhases.{WorldPhases, MayCome, PhasesMove}
use Rattle.snap_world.specs.Devices.{Changes, DevicesMove, GatesTold}
use Rattle.snap_world.proofs.PhaseMoves.{with_actors_writer, with_actors_scanner, writer_moved}
use Rattle.snap_persist.specs.{declared.persist.Stage.Stage}
use Rattle.snap_persist.proofs.{Stages.begins}
use Rattle.std.specs.{declared.alloc.AllocError.AllocError, Global.Vec}
use Rattle.std.proofs.{lemmas.List.map-set, lemmas.Bool.cases_eq, Math.Logic.∥∥₁_map}
use Rattle.snap_history.proofs.{Lists.get-set_other}
use Rattle.snap_world.specs.{inside.Steps.phases_of_actors, declared.writer.WriterPhase.WriterPhase}
use Rattle.snap_world.specs.{declared.writer.WriterActor.WriterActor, declared.actors.Actors.Actors}
use Rattle.snap_world.specs.{declared.scanner.ScannerActor.ScannerActor, declared.node.WorldNode.WorldNode}
use Rattle.snap_world.specs.{declared.node.NodePhase.TheVariants.Up, declared.event.Event.TheVariants.Serve}
use Rattle.snap_world.specs.{declared.event.Event.Event, declared.event.Reply.TheVariants.NotNow}
use Rattle.snap_world.specs.{declared.event.Reply.Reply, declared.drive.Drive.Drive, Phases.Phases}
use Rattle.snap_world.proofs.{Elements.set_is, Elements.map_at, Moves.writer_moves, Moves.scanner_moves}
use Rattle.snap_disk.specs.{Device.Device}
use Rattle.snap_world.specs.declared.writer.WriterPhase.TheVariants as writer

pub device_changes : (ds : List Drive) (i : ℕ) (d e : Drive) → slice_get ds i ≡ Some d → (R : Device → Device → Type 0)
    → R (device_of d) (device_of e) → Changes i R (map device_of ds) (map device_of (slice_set ds i e))
device_changes ds i d e there R change = search (rules, map_at, map-set)

-- the two lists have the same at each place but i
abbrev pub SameBut : {A : Type 0} → ℕ → List A → List A → Type 0
SameBut i xs ys = (j : ℕ) → j ≢ i → slice_get ys j ≡ slice_get xs j

-- one segment's part changes, and the number and value of no other segment
pub drives_change : (n : ℕ) (h g : List Update) (ss ts : List WriterState) (ps qs : List WriterPhase)
    (ds es : List Drive) (i : ℕ) → SameBut i ss ts → SameBut i ps qs → SameBut i ds es
    → ((j : ℕ) → j ≢ i → (number_after from_nothing h j ≡ number_after from_nothing g j) × (value_after from_nothing h j
    ≡ value_after from_nothing g j)) → ((d : Drive) (s : WriterState) (phase : WriterPhase) → slice_get es i ≡ Some d
    → slice_get ts i ≡ Some s → slice_get qs i ≡ Some phase → DriveStands n g i phase s.pending d)
    → DrivesStand n h ss ps ds → DrivesStand n g ts qs es
drives_change n h g ss ts ps qs ds es i states phases drives same here stand j d s phase ed es_ ep =
    search (rules, cases_eq)

first_calls : (spare_open : Bool) (at : Stage) → at ≡ first_stage spare_open → calls_left at ≢ []
first_calls true at e none = let f : calls_left (first_stage true) ≡ [] = subst (λ z. calls_left z ≡ []) e none in cc
first_calls false at e none = let f : calls_left (first_stage false) ≡ [] = subst (λ z. calls_left z ≡ []) e none in cc

-- the device is ready for a store of any value
pub store_begins : (i n k : ℕ) (u v : List ℕ) (d : Device) (persist : PersistState)
    → IsReady i n k u d persist → IsStoreUnderWay i n k u v d persist
store_begins i n k u v d persist is = search (rules, first_calls, begins)

-- the phase and the update of one writer change
module _ (n : ℕ) (h : List Update) (ss : List WriterState) (ps : List WriterPhase) (ds : List Drive)
    (stand : DrivesStand n h ss ps ds) where
  part_changes : (g : List Update) (w : ℕ) (t : WriterState) (qs : List WriterPhase) → SameBut w ps qs → ((j : ℕ)
      → j ≢ w → (number_after from_nothing h j ≡ number_after from_nothing g j) × (value_after from_nothing h j
      ≡ value_after from_nothing g j)) → ((d : Drive) (phase : WriterPhase) → slice_get ds w ≡ Some d
      → slice_get qs w ≡ Some phase → DriveStands n g w phase t.pending d) → DrivesStand n g (slice_set ss w t) qs ds
  part_changes g w t qs phases grows here = search (rules, drives_change, get-set_other, set_is)

  pub writer_changes : (w : ℕ) (s : WriterState) (phase : WriterPhase) → ((d : Drive) → slice_get ds w ≡ Some d
      → DriveStands n h w phase s.pending d) → DrivesStand n h (slice_set ss w s) (slice_set ps w phase) ds
  writer_changes w s phase here = search (rules, part_changes, get-set_other, set_is)

  -- a writer shows its update
  pub writer_shows : (w : ℕ) (t : WriterState) (v : List ℕ) → ((d : Drive) → slice_get ds w ≡ Some d
      → IsReady w n (number_after from_nothing h w + 1) v (device_of d) d.persist)
      → DrivesStand n (h ++ record { segment = w; value = v } ∷ []) (slice_set ss w t) (slice_set ps w writer.Shown) ds
  writer_shows w t v ready =
      let u : Update = record { segment = w; value = v } in
      part_changes (h ++ u ∷ []) w t (slice_set ps w writer.Shown) (λ j ne. get-set_other ps w j writer.Shown ne)
      (λ j ne. (
        sym (number-push_other from_nothing h u j (λ e. ne (sym e))),
        sym (value-push_other from_nothing h u j (λ e. ne (sym e))),
      )) (λ d ph ed eq. (
      let At : ℕ → List ℕ → Type 0 = λ k z. IsReady w n k z (device_of d) d.persist in
      subst (λ z. DriveStands n (h ++ u ∷ []) w z t.pending d) (set_is ps w writer.Shown ph eq)
      (subst (At (number_after from_nothing (h ++ u ∷ []) w)) (sym (value-push from_nothing h u))
      (subst (λ k. At k v) (sym (number-push from_nothing h u)) (ready d ed)))))

pub same_phases : (p q : WorldPhases) → q.node ≡ p.node → q.actors ≡ p.actors → q.calls ≡ p.calls → q ≡ p
same_phases p q node actors calls = search rules

pub is_up : (w : WorldNode) (x : State) → w.phase ≡ Up → NodeStands w x → IsUp w.actors w.drives.items x
is_up w x up stands = subst (IsNodeAt w.actors w.drives.items x) up stands.at

pub actors_of : (w : WorldNode) → w.phase ≡ Up → NodeStand w → Stand w.actors
actors_of w up t = ∥∥₁_map t (λ q. (q.0, (is_up w q.0 up q.1).actors_stand))

-- an event of an actor, as one of the node, also if memory may have run out
pub acts : (w : WorldNode) (actors : Actors) (event act : Event) (reply : Reply) → event ≡ act → w.phase ≡ Up
    → IsActorsStep w.actors act reply actors → IsNodeStep w event reply (record w { actors = actors })
acts w actors event act reply is up s = subst (λ e. IsNodeStep w e reply
    (record w { actors = actors })) (sym is) (subst (λ z. IsNodeStep (record w { phase = z }) act reply
    (record w { phase = z; actors = actors })) (sym up) (s.each w.drives))

pub acts_or_fails : (w : WorldNode) (actors : Actors) (event act : Event) (result : Result Reply AllocError)
    → event ≡ act → w.phase ≡ Up → IfOk result (λ reply. IsActorsStep w.actors act reply actors)
    → IfOk result (λ reply. IsNodeStep w event reply (record w { actors = actors }))
acts_or_fails w actors event act (Ok reply) is up s = acts w actors event act reply is up s
acts_or_fails w actors event act (Err error) is up s = tt

-- the phases of a node that is up
abbrev pub up_at : Vec Drive → Phases → WorldPhases
up_at ds p = record { node = Up; actors = p; calls = map store_left ds.items }

-- an event that came, by what it does from each state
pub steps : (w v : WorldNode) (event : Event) (reply : Reply) → (reply ≡ NotNow → ⊥)
    → v.actors.segments ≡ w.actors.segments
    → ((x : State) → NodeStands w x → MayCome x (phases_of_node w) event × PhasesMove w.actors.segments x
    (phases_of_node w) event reply (phases_of_node v) × GatesTold event reply (phases_of_node v) (devices_of_node v)
    × ((y : State) × Step w.actors.segments x event reply y × DevicesMove w.actors.segments x (phases_of_node w)
    (devices_of_node w) event reply y (devices_of_node v) × NodeStands v y)) → IsNodeStep w event reply v
steps w v event reply ne segments moves = record {
  segments = segments;
  step = λ x stands. (moves x stands).3;
  comes = λ x stands. record { refused = λ e. absurd (ne e); came = λ _. (moves x stands).0 };
  phases = λ x stands. (moves x stands).1;
  gates = λ x stands. (moves x stands).2;
  unchanged = λ e. absurd (ne e);
}

-- an event of an actor that came; it leaves the devices, and tells nothing of the spare gates
pub came : (w v : Actors) (event : Event) (reply : Reply) → (reply ≡ NotNow → ⊥)
    → ((n : ℕ) (x : State) (p q : WorldPhases) (ds : List Device) (y : State) → DevicesMove n x p ds event reply y ds
    × GatesTold event reply q ds) → v.segments ≡ w.segments → ((ds : List Drive) (x : State) → IsUp w ds x → (y : State)
    × Step w.segments x event reply y × IsUp v ds y) → ((ds : Vec Drive) (x : State) → ActorsStand w x → MayCome x
    (up_at ds (phases_of_actors w)) event) → ((ds : Vec Drive) (x : State) → ActorsStand w x → PhasesMove w.segments x
    (up_at ds (phases_of_actors w)) event reply (up_at ds (phases_of_actors v))) → IsActorsStep w event reply v
came w v event reply ne keeps segments step may phases = record {
  each = λ ds. steps (node_of w ds) (node_of v ds) event reply ne segments (λ x stands. (
      let f = step ds.items x stands.at in
      let a = stands.at.actors_stand in
      let same = λ (y : State). keeps w.segments x (phases_of_node (node_of w ds)) (phases_of_node (node_of v ds))
      (devices_of_node (node_of w ds)) y in
      let now : NodeStands (node_of v ds) f.0 = record { drives_n = stands.drives_n ∙ sym segments; at = f.2 } in
      (may ds x a, phases ds x a, (same x).1, (f.0, f.1, (same f.0).0, now))));
}

-- an actor moves, and no device
module _ (w : Actors) (ds : List Drive) (x : State) (up : IsUp w ds x) (i : ℕ) where
  pub writer_goes : (a : WriterActor) (old s : WriterState) → i < w.segments → slice_get x.writers i ≡ Some old
      → s.view ≡ old.view → WriterStands w.segments x.history up.actors_stand.since i a s
      → ((d : Drive) → slice_get ds i ≡ Some d → DriveStands w.segments x.history i a.phase s.pending d)
      → IsUp (with_actors_writer w i a) ds (with_writer x i s)
  writer_goes a old s l there same here drive = record {
    actors_stand = writer_moves w x up.actors_stand i a old s l there same here;
    drives_stand = subst (λ (p : Phases). DrivesStand w.segments x.history (slice_set x.writers i s) p.writers ds)
        (sym (writer_moved w i a)) (writer_changes w.segments x.history x.writers
        (phases_of_actors w).writers ds up.drives_stand i s a.phase drive);
  }

  pub scanner_goes : (a : ScannerActor) (s : ScannerState) → i < length w.scanners.items
      → ScannerStands w.segments x.history
      up.actors_stand.since i a s → IsUp (with_actors_scanner w i a) ds (with_scanner x i s)
  scanner_goes a s l here = search (rules, scanner_moves)

-- an event that may not come
pub refuses : (w : WorldNode) (event : Event) → ((x : State) → NodeStands w x → MayCome x (phases_of_node w) event → ⊥)
    → IsNodeStep w event NotNow w
refuses w event not = record {
  segments = refl;
  step = λ x stands. (
    x,
    refl,
    no_change (length w.drives.items) x (phases_of_node w) (devices_of_node w) event x,
    stands,
  );
  comes = λ x stands. record { refused = λ e. not x stands; came = λ ne. absurd (ne refl) };
  phases = λ x stands. refl;
  gates = λ x stands. no_gates event (phases_of_node w) (devices_of_node w);
  unchanged = λ e. refl;
}
  where
    no_gates : (event : Event) (q : WorldPhases) (ds : List Device) → GatesTold event NotNow q ds
    no_gates Serve q ds = tt
    no_gates event q ds = tt

    no_change : (n : ℕ) (x : State) (p : WorldPhases) (ds : List Device) (event : Event) (y : State)
        → DevicesMove n x p ds event NotNow y ds
    no_change n x p ds event y = refl

-- what `WorldNode::step` passes on
pub ruleset node_acts = (actors_of, acts, acts_or_fails)
