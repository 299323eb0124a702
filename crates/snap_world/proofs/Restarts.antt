-- A crash, and the calls of a restart, as steps of the node.
-- what a crash leaves of a segment, by the phase of its writer
use Rattle.snap_world.specs.Devices.{AreRefilled, IsRefilled, DevicesMove, GatesTold}
use Rattle.snap_world.specs.Machine.{State, WriterState, Pending, Begun, Closed, crashed, crashed_pending}
use Rattle.snap_world.specs.Machine.{crashed_writer, Step}
use Rattle.snap_world.specs.inside.Drives.{IsDriveAt, DrivesDown, HoldsEither, AreCrashed, device_of}
use Rattle.snap_world.specs.inside.Stands.{ActorsStand, WriterStands, ScannerStands, IsAtPhase}
use Rattle.snap_world.specs.inside.NodeSteps.{store_left, IsNodeStep, phases_of_node, devices_of_node}
use Rattle.snap_world.specs.inside.NodeStands.{NodeStand, IsSized, ActorsRest, IsUp, IsDown, IsNodeAt, NodeStands}
use Rattle.snap_world.specs.inside.NodeStands.{IsRecovering, IsRestarting}
use Rattle.snap_world.specs.declared.node.NodePhase.TheVariants.{Up, Down, Restarting}
use Rattle.snap_world.specs.declared.event.Reply.TheVariants.{Called, DeviceFailed, NotNow}
use Rattle.snap_world.specs.NodePhases.{all_idle, node_to, after_opening_call, MayCome, PhasesMove}
use Rattle.snap_world.proofs.Elements.{map_element, map_same, origin, each-set, map_at}
use Rattle.snap_world.proofs.Events.{steps, same_phases, device_changes}
use Rattle.snap_disk.specs.Device.{Device, MayLeave, IsSettled, IsSynced}
use Rattle.std.proofs.Common.{rules, ◌≡◌, ℕ, ◌+◌, ◌<◌, ◌≤◌, inl, inr, ⊎_elim, List, length, map, Some, slice_get, ap}
use Rattle.std.proofs.Common.{sym, ◌∙◌, subst, arith, get_or, slice_set, refl}
use Rattle.snap_history.specs.History.{Update, from_nothing, number_after, value_after}
use Rattle.snap_world.specs.{inside.Fresh.IsHalted, inside.Fresh.IsScannerHalted, inside.Steps.phases_of_actors}
use Rattle.snap_world.specs.{declared.writer.WriterPhase.WriterPhase, declared.writer.WriterActor.WriterActor}
use Rattle.snap_world.specs.{declared.actors.Actors.Actors, declared.node.WorldNode.WorldNode}
use Rattle.snap_world.specs.{declared.node.OpeningCall.OpeningCall, declared.node.NodePhase.NodePhase}
use Rattle.snap_world.specs.{declared.drive.Drive.Drive, declared.event.Event.Event}
use Rattle.snap_world.specs.{declared.event.Event.TheVariants.RestartCall, declared.event.Event.TheVariants.RestartFail}
use Rattle.snap_world.specs.{declared.event.Reply.Reply}
use Rattle.snap_world.proofs.{NewWorld.phases_idle}
use Rattle.snap_slot.specs.{Findings.IsFound, Layout.IsFileOf, States.IsEither}
use Rattle.snap_slot.proofs.{Rest.at_rest_leaves}
use Rattle.snap_disk.specs.{declared.fill.Fill.Fill, Laws.unsynced_leaves, Laws.synced_leaves}
use Rattle.snap_persist.proofs.{Stages.stage_leaves}
use Rattle.snap_persist.specs.{Stage.PersistState, Stage.calls_left}
use Rattle.std.specs.{Vec.with_item, Vec.vec_len}
use Rattle.std.proofs.{Math.Logic.∥∥₁_elim, Math.Logic.∥∥₁_map, Math.Seq.map-set_same, lemmas.Option.slice_get_within}
use Rattle.std.proofs.{lemmas.Option.slice_get_read, lemmas.List.length-map, lemmas.List.length-set}
use Rattle.std.proofs.{lemmas.Bool.Decides.nat_tests, Props.props}
use Rattle.snap_history.specs.{Pairs.Pairs}
use Rattle.snap_history.proofs.{Lists.get-set_other, Pairs.element, Pairs.partner}
use Rattle.snap_world.specs.declared.node.OpeningCall.TheVariants as opening
use Rattle.snap_world.specs.declared.writer.WriterPhase.TheVariants as writer
use Rattle.snap_world.specs.declared.event.Kind.TheVariants as kind

module _ (n : ℕ) (h : List Update) (g i : ℕ) (a : WriterActor) (s : WriterState) (d : Device)
    (persist : PersistState) where
  abbrev k : ℕ
  k = number_after from_nothing h i

  abbrev u : List ℕ
  u = value_after from_nothing h i

  begun_either : (v : List ℕ) → s.pending ≡ Begun v → (b : List ℕ) → IsEither i n k u v b
      → HoldsEither i n k u (crashed_pending s.pending) b
  begun_either v begun b either = ⊎_elim (λ old. inl old) (λ new. inr (v, ap crashed_pending begun, new)) either

  phase_leaves : (phase : WriterPhase) → IsAtPhase n h g i a s phase → IsDriveAt i n k u phase s.pending d persist
      → (b : List ℕ) → MayLeave d b → HoldsEither i n k u (crashed_pending s.pending) b
  phase_leaves writer.Storing at drive b left = begun_either a.value at.0.pending b
      (stage_leaves i n k u a.value at.0.room at.0.fits persist.stage d (drive a.value at.0.pending).at_stage b left)
  phase_leaves writer.Stored at drive b left =
      let ready = drive a.value at.0.pending in inr (
        a.value,
        ap crashed_pending at.0.pending,
        at_rest_leaves i n (k + 1) a.value ready.spare_open d ready.rest b left,
      )
  phase_leaves writer.Fenced at drive b left = begun_either at.0 at.1 b (drive at.0 at.1 b left)
  phase_leaves phase at drive b left = inl (at_rest_leaves i n k u drive.spare_open d drive.rest b left)

-- what a crash leaves of each device: the same holds after the crash
abbrev Leaves : ℕ → List Update → List WriterState → List Drive → Type 0
Leaves n h ss ds = (i : ℕ) (d : Drive) (s : WriterState) → slice_get ds i ≡ Some d → slice_get ss i ≡ Some s
    → (b : List ℕ) → MayLeave (device_of d) b
    → HoldsEither i n (number_after from_nothing h i) (value_after from_nothing h i) (crashed_pending s.pending) b

up_leaves : (actors : Actors) (ds : List Drive) (x : State) → IsUp actors ds x
    → Leaves actors.segments x.history x.writers ds
up_leaves actors ds x up i d s ed es =
    let stand = up.actors_stand in
    let a = element actors.writers.items i (omega (arith, stand.writers.size, slice_get_within x.writers i s es)) in
    let here : WriterStands actors.segments x.history stand.since i a.0 s = stand.writers.each i a.0 s a.1 es in
    let phase = map_at (λ (v : WriterActor). v.phase) actors.writers.items i a.0 a.1 in
    phase_leaves actors.segments x.history stand.since i a.0 s
    (device_of d) d.persist a.0.phase here.phase (up.drives_stand i d s a.0.phase ed es phase)

either_stays : (i n k : ℕ) (u : List ℕ) (p : Pending) (b : List ℕ) → HoldsEither i n k u p b
    → HoldsEither i n k u (crashed_pending p) b
either_stays i n k u p b (inl old) = inl old
either_stays i n k u p b (inr new) = inr (new.0, ap crashed_pending new.1, new.2)

down_leaves : (n : ℕ) (h : List Update) (ss : List WriterState) (ds : List Drive)
    → DrivesDown n h ss ds → Leaves n h ss ds
down_leaves n h ss ds down i d s ed es b left = search (rules, either_stays)

leaves : (actors : Actors) (ds : List Drive) (x : State) (phase : NodePhase)
    → IsNodeAt actors ds x phase → Leaves actors.segments x.history x.writers ds
leaves actors ds x Up at = up_leaves actors ds x at
leaves actors ds x (Restarting i opening.Sync) at = search (rules, down_leaves)
leaves actors ds x (Restarting i opening.Read) at = search (rules, down_leaves)
leaves actors ds x phase at = search (rules, down_leaves)

crashed_drives : (n : ℕ) (h : List Update) (ss : List WriterState) (ds es : List Drive) (fills : List Fill)
    → length fills ≡ length ds → Leaves n h ss ds → AreCrashed fills ds es → DrivesDown n h (map crashed_writer ss) es
crashed_drives n h ss ds es fills size left crash i e t ee et b may =
    let s = map_element crashed_writer ss i t et in
    let d = origin i e crash ee in
    let f = element fills i (omega (arith, slice_get_within ds i d.0 d.1)) in
    subst (λ (z : WriterState). HoldsEither i n (number_after from_nothing h i) (value_after from_nothing h i) z.pending
    b) s.2 (left i d.0 s.0 d.1 s.1 b (unsynced_leaves (d.2 f.0 f.1).refilled.left b may))

sized_up : (w : Actors) (x : State) → ActorsStand w x → IsSized w x
sized_up w x stands = record {
  least = stands.least;
  most = stands.most;
  registers_n = stands.registers.size;
  views_n = λ i r e. (stands.registers.each i r e).size;
  writers_n = stands.writers_n;
  writers = stands.writers.size;
  writers_memory = λ i a e. (partner
      (WriterStands w.segments x.history stands.since) w.writers.items x.writers i a stands.writers e).2.size;
  scanners = stands.scanners.size;
  scanners_memory = λ i a e. (partner
      (ScannerStands w.segments x.history stands.since) w.scanners.items x.scanners i a stands.scanners e).2.size;
}

pub sized : (actors : Actors) (ds : List Drive) (x : State) (phase : NodePhase)
    → IsNodeAt actors ds x phase → IsSized actors x
sized actors ds x Up at = sized_up actors x at.actors_stand
sized actors ds x (Restarting i opening.Sync) at = at.1.down.actors_rest.sized
sized actors ds x (Restarting i opening.Read) at = at.1.down.actors_rest.sized
sized actors ds x phase at = search rules

module _ (w new : Actors) (segments : new.segments ≡ w.segments) (registers : new.registers
    ≡ w.registers) (writers : Pairs (λ i. IsHalted) w.writers.items new.writers.items)
    (scanners : Pairs (λ i. IsScannerHalted) w.scanners.items new.scanners.items) where
  rests : (x : State) → IsSized w x → ActorsRest new (crashed x)
  rests x is = record {
    sized = record {
      least = subst (λ n. 0 < n) (sym segments) is.least;
      most = subst (λ n. n ≤ 16) (sym segments) is.most;
      registers_n = ap (λ r. length r.items) registers ∙ is.registers_n ∙ sym segments;
      views_n = λ i r e. is.views_n i r (ap (λ z. slice_get z.items i) (sym registers) ∙ e) ∙ sym segments;
      writers_n = sym writers.size ∙ is.writers_n ∙ sym segments;
      writers = sym writers.size ∙ is.writers ∙ sym (length-map x.writers crashed_writer);
      writers_memory = λ i b e. search (rules, origin i b writers e, is.writers_memory, segments);
      scanners = sym scanners.size ∙ is.scanners ∙ sym (length-map x.scanners (λ s. Closed));
      scanners_memory = λ i b e. search (rules, origin i b scanners e, is.scanners_memory, segments);
    };
    writers = λ i b e. (origin i b writers e).2.idle;
    scanners = λ i b e. (origin i b scanners e).2.idle;
  }

  pub halted_phases : phases_of_actors new ≡ all_idle (phases_of_actors w)
  halted_phases =
      phases_idle new (length (phases_of_actors w).writers) (length (phases_of_actors w).scanners) (sym writers.size
      ∙ sym (length-map w.writers.items (λ v. v.phase))) (sym scanners.size ∙ sym (length-map w.scanners.items
      (λ v. v.phase))) (λ i b e. (origin i b writers e).2.idle) (λ i b e. (origin i b scanners e).2.idle)

  pub goes_down : (ds es : List Drive) (fills : List Fill) (x : State) (phase : NodePhase) → length fills ≡ length ds
      → IsNodeAt w ds x phase → AreCrashed fills ds es → IsDown new es (crashed x)
  goes_down ds es fills x phase size at crash = record {
    actors_rest = rests x (sized w ds x phase at);
    drives_down = subst (λ n. DrivesDown n x.history (map crashed_writer x.writers) es)
        (sym segments) (crashed_drives w.segments x.history x.writers ds es fills size (leaves w ds x phase at) crash);
  }

pub crashed_devices : (ds es : List Drive) (fills : List Fill) → AreCrashed fills ds es
    → AreRefilled fills (map device_of ds) (map device_of es)
crashed_devices ds es fills crash = search (rules, length-map, map_element)

pub crashed_calls : (ds es : List Drive) (fills : List Fill) → length fills ≡ length ds
    → AreCrashed fills ds es → map store_left es ≡ map store_left ds
crashed_calls ds es fills size crash = map_same store_left es ds (sym crash.size) (λ i e d ee ed. (
    let f = element fills i (omega (arith, slice_get_within ds i d ed)) in
    ap (λ (o : PersistState). calls_left o.stage) (crash.each i d e ed ee f.0 f.1).persist))

-- how many devices there are
pub few_drives : (w : WorldNode) → NodeStand w
    → (length w.drives.items ≤ 16) × (length w.drives.items ≡ w.actors.segments)
few_drives w t = ∥∥₁_elim t (hlevel props) (search (rules, sized))

-- one device changes, after which a crash leaves no more than before
module _ (actors : Actors) (ds : List Drive) (x : State) (i : ℕ) (d e : Drive) (there : slice_get ds i ≡ Some d) where
  down_set : ((b : List ℕ) → MayLeave (device_of e) b → MayLeave (device_of d) b)
      → IsDown actors ds x → IsDown actors (slice_set ds i e) x
  down_set less down = record {
    actors_rest = down.actors_rest;
    drives_down = λ j f s ef. each-set (λ j f. (s : WriterState) → slice_get x.writers j ≡ Some s → (b : List ℕ)
        → MayLeave (device_of f) b → HoldsEither j actors.segments (number_after from_nothing x.history j) (value_after
        from_nothing x.history j) s.pending b) ds i e (λ s es b may. down.drives_down i d s there es b (less b may))
        (λ j f ne ef s. down.drives_down j f s ef) j f ef s;
  }

  sync_goes : IsRecovering actors ds x i i → IsSynced (device_of d) (device_of e)
      → IsRecovering actors (slice_set ds i e) x (i + 1) i
  sync_goes at synced = record {
    down = down_set (λ b may. synced_leaves synced b may) at.down;
    settled = each-set (λ j f. j < i + 1 → IsSettled (device_of f)) ds i e (λ low. synced.settled)
        (λ j f ne ef low. at.settled j f ef (omega arith));
    found = λ j f ef low. at.found j f (sym (get-set_other ds i j e (λ same. omega arith)) ∙ ef) low;
  }

  read_goes : IsRecovering actors ds x (i + 1) i → device_of e ≡ device_of d
      → IsFound i actors.segments (device_of d).bytes e.found → IsRecovering actors (slice_set ds i e) x (i + 1) (i + 1)
  read_goes at same_device found = record {
    down = down_set (λ b may. subst (λ z. MayLeave z b) same_device may) at.down;
    settled = each-set (λ j f. j < i + 1 → IsSettled (device_of f)) ds i e (λ low. subst IsSettled (sym same_device)
        (at.settled i d there low)) (λ j f ne. at.settled j f);
    found = each-set (λ j f. j < i + 1 → IsFound j actors.segments (device_of f).bytes f.found) ds i e
        (λ low. subst (λ (z : Device). IsFound i actors.segments z.bytes e.found) (sym same_device) found)
        (λ j f ne ef low. at.found j f ef (omega arith));
  }

-- the next segment is opened, or all are
after_read : (actors : Actors) (ds : List Drive) (x : State) (n i : ℕ) → n ≡ actors.segments → i < n
    → IsRecovering actors ds x (i + 1) (i + 1) → IsNodeAt actors ds x (after_opening_call n i opening.Read)
after_read actors ds x n i size low at = search (rules, nat_tests)

module _ (w : WorldNode) (i : ℕ) (call : OpeningCall) (restarting : w.phase ≡ Restarting i call) where
  -- the segment whose call is next exists
  module _ (x : State) (stands : NodeStands w x) where
    at_call : (i < w.actors.segments) × IsRestarting w.actors w.drives.items x i call
    at_call = subst (IsNodeAt w.actors w.drives.items x) restarting stands.at

    drive_there : (d : Drive) → d ≡ get_or w.drives.items i d → slice_get w.drives.items i ≡ Some d
    drive_there d read = slice_get_read w.drives.items w.actors.segments i d (sym stands.drives_n) at_call.0 read

  pub opening_within : NodeStand w → i < length w.drives.items
  opening_within stand = ∥∥₁_elim stand (hlevel props) (search (rules, at_call))

  pub opening_fits : NodeStand w → i < vec_len w.drives
  opening_fits stand = let low = opening_within stand in omega (arith, w.drives.ok.0)

module _ (w : WorldNode) (i : ℕ) (d : Drive) (read : d ≡ get_or w.drives.items i d) (e : Drive)
    (persist : e.persist ≡ d.persist) where
  -- the phases, of which only the node's has moved
  phases_to : (phase : NodePhase) → phases_of_node (record w {
    phase = phase;
    drives = with_item w.drives i e;
  }) ≡ node_to (phases_of_node w) phase
  phases_to phase = same_phases (node_to (phases_of_node w) phase) _ refl refl (map-set_same store_left w.drives.items i
      e d (ap (λ (o : PersistState). calls_left o.stage) persist ∙ ap store_left read))

  -- a call of a restart leaves the state, and the node in this phase
  opening_step : (call : OpeningCall) → w.phase ≡ Restarting i call → (event : Event) (reply : Reply)
      (phase : NodePhase) → let v : WorldNode = record w { phase = phase; drives = with_item w.drives i e } in
      (reply ≡ NotNow → ⊥) → ((x : State) → MayCome x (phases_of_node w) event
      × Step w.actors.segments x event reply x × GatesTold event reply (phases_of_node v) (devices_of_node v))
      → ((x : State) → NodeStands w x → slice_get w.drives.items i ≡ Some d → i < w.actors.segments
      → IsRestarting w.actors w.drives.items x i call → DevicesMove w.actors.segments x (phases_of_node w)
      (devices_of_node w) event reply x (devices_of_node v) × PhasesMove w.actors.segments x (phases_of_node w) event
      reply (phases_of_node v) × IsNodeAt w.actors v.drives.items x phase) → IsNodeStep w event reply v
  opening_step call restarting event reply phase ne comes moves = steps w _ event reply ne refl (λ x stands. (
      let at = at_call w i call restarting x stands in
      let f = moves x stands (drive_there w i call restarting x stands d read) at.0 at.1 in
      let size = length-set w.drives.items i e ∙ stands.drives_n in
      ((comes x).0, f.1, (comes x).2, (x, (comes x).1, f.0, record { drives_n = size; at = f.2 }))))

  module _ (restarting : w.phase ≡ Restarting i opening.Sync) where
    pub sync_step : IsSynced (device_of d) (device_of e) → IsNodeStep w RestartCall
        (Called kind.Sync) (record w { phase = Restarting i opening.Read; drives = with_item w.drives i e })
    sync_step synced = opening_step opening.Sync restarting _ _ _ (λ f. cc)
        (λ x. ((i, opening.Sync, restarting), refl, tt)) (λ x stands there low at. (
          (i, opening.Sync, restarting, device_changes w.drives.items i d e there IsSynced synced),
          (i, opening.Sync, restarting, refl, phases_to (Restarting i opening.Read)),
          (low, sync_goes w.actors w.drives.items x i d e there at synced),
        ))

    pub sync_fail_step : (fill : Fill) → IsRefilled fill (device_of d) (device_of e)
        → IsNodeStep w (RestartFail fill) DeviceFailed (record w { phase = Down; drives = with_item w.drives i e })
    sync_fail_step fill refilled = opening_step opening.Sync restarting _ _ _ (λ f. cc)
        (λ x. ((i, opening.Sync, restarting), refl, tt)) (λ x stands there low at. (
          (i, opening.Sync, restarting, device_changes w.drives.items i d e there (IsRefilled fill) refilled),
          phases_to Down,
          down_set w.actors w.drives.items x i d e there (λ b may. unsynced_leaves refilled.left b may) at.down,
        ))

  pub read_step : (restarting : w.phase ≡ Restarting i opening.Read) (n : ℕ) → n ≡ length w.drives.items
      → (phase : NodePhase) → phase ≡ after_opening_call n i opening.Read → device_of e ≡ device_of d
      → IsFound i n (device_of d).bytes e.found
      → IsNodeStep w RestartCall (Called kind.Read) (record w { phase = phase; drives = with_item w.drives i e })
  read_step restarting n size phase next same_device found = opening_step opening.Read restarting _ _ _
      (λ f. cc) (λ x. ((i, opening.Read, restarting), refl, tt)) (λ x stands there low at. (
      let all : n ≡ w.actors.segments = size ∙ stands.drives_n in
      let goes : IsRecovering w.actors (slice_set w.drives.items i e) x (i + 1) (i + 1) = read_goes w.actors
      w.drives.items x i d e there at same_device (subst (λ m. IsFound i m (device_of d).bytes e.found) all found) in
      let same = map-set_same device_of w.drives.items i e d (same_device ∙ ap device_of read) in
      let moved = phases_to phase ∙ ap (node_to (phases_of_node w)) (next
      ∙ ap (λ m. after_opening_call m i opening.Read) all) in (
        (i, opening.Read, restarting, same),
        (i, opening.Read, restarting, refl, moved),
        subst (IsNodeAt w.actors (slice_set w.drives.items i e) x) (sym next)
            (after_read w.actors (slice_set w.drives.items i e) x n i all (omega arith) goes),
      )))

-- the bytes that a restart reads are the file of its segment
a_file : (w : WorldNode) (i : ℕ) → w.phase ≡ Restarting i opening.Read → (d : Drive)
    → d ≡ get_or w.drives.items i d → (n : ℕ) → length w.drives.items ≡ n → (x : State)
    → NodeStands w x → (k : ℕ) × (v : List ℕ) × IsFileOf i n k v (device_of d).bytes
a_file w i restarting d read n count x stands =
    let down = (at_call w i opening.Read restarting x stands).1.down in
    let there = drive_there w i opening.Read restarting x stands d read in
    let sized = down.actors_rest.sized in
    let low = (at_call w i opening.Read restarting x stands).0 in
    let s = element x.writers i (omega (arith, low, sized.writers, sized.writers_n)) in
    let either = down.drives_down i d s.0 there s.1 (device_of d).bytes (record {
      size = refl;
      elsewhere = λ p closed. refl;
    }) in
    let File : ℕ → List ℕ → ℕ → Type 0 = λ k v n. IsFileOf i n k v (device_of d).bytes in
    let size : w.actors.segments ≡ n = sym stands.drives_n ∙ count in search rules

pub some_file : (w : WorldNode) (i : ℕ) → NodeStand w → w.phase ≡ Restarting i opening.Read → (d : Drive)
    → d ≡ get_or w.drives.items i d → (n : ℕ) → length w.drives.items ≡ n
    → ∥ ((k : ℕ) × (v : List ℕ) × IsFileOf i n k v (device_of d).bytes) ∥₁
some_file w i t restarting d read n count = ∥∥₁_map t (λ q. a_file w i restarting d read n count q.0 q.1)
