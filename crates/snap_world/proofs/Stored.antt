-- One device call of a store, also as a step of the node.
-- the device of a store has the length of a file
use Rattle.std.proofs.lemmas.Option.{slice_get_read, get_or_from_slice_get, same_Some}
use Rattle.std.proofs.Common.{rules, ◌≡◌, ◌≢◌, ℕ, ◌+◌, ◌%◌, ◌^◌, ◌<◌, ◌≤◌, inl, inr, true, List, [], ◌∷◌, length, refl}
use Rattle.std.proofs.Common.{ap, sym, ◌∙◌, subst, map, get_or, Some, slice_get, slice_set, arith}
use Rattle.snap_persist.proofs.Stages.{stage_leaves, write_leaves, write_goes, sync_goes, sync_leaves}
use Rattle.snap_persist.specs.Device.{IsAtStage, write_at, write_bytes, write_len}
use Rattle.snap_persist.specs.Stage.{PersistState, calls_left, first_call, first_stage, after_call, store_calls}
use Rattle.snap_world.specs.Devices.{IsMade, IsMissed, Changes, DevicesMove}
use Rattle.snap_world.specs.inside.Drives.{IsReady, IsStoreUnderWay, DriveStands, DrivesStand, device_of}
use Rattle.snap_world.specs.inside.NodeSteps.{MayStore, phases_of_node, devices_of_node, store_left}
use Rattle.snap_world.specs.inside.NodeStands.{NodeStands, NodeStand, IsUp, IsNodeAt}
use Rattle.snap_world.specs.Machine.{State, WriterState, Begun, Step, with_writer}
use Rattle.snap_world.specs.NodePhases.{WorldPhases, AfterCall, PhasesMove}
use Rattle.snap_world.proofs.Moves.{WriterFound, within, the_writer, the_register}
use Rattle.snap_world.proofs.Elements.{set_is, same_read, map_element, map_at}
use Rattle.snap_world.proofs.Events.{is_up, actors_of, same_phases, SameBut, drives_change, device_changes}
use Rattle.snap_history.specs.History.{from_nothing, number_after, value_after}
use Rattle.snap_disk.specs.Device.{Device, MayLeave, IsTouched}
use Rattle.std.specs.{Vec.with_item, Vec.vec_len}
use Rattle.std.proofs.{lemmas.List.length-set, lemmas.List.map-set, Props.props, Math.Logic.∥∥₁_elim}
use Rattle.snap_slot.specs.{Layout.body_block, States.IsEither}
use Rattle.snap_slot.proofs.{Blocks.length-body_block}
use Rattle.snap_persist.specs.{declared.persist.Stage.Stage, declared.persist.NextCall.NextCall}
use Rattle.snap_persist.specs.{declared.persist.Write.Write}
use Rattle.snap_world.specs.{Calls.store_call, inside.Steps.phases_of_actors, inside.Stands.ActorsStand}
use Rattle.snap_world.specs.{inside.Stands.HasBegun, declared.node.WorldNode.WorldNode}
use Rattle.snap_world.specs.{declared.writer.WriterActor.WriterActor}
use Rattle.snap_world.specs.{declared.writer.WriterPhase.WriterPhase, declared.actors.Actors.Actors}
use Rattle.snap_world.specs.{declared.event.Reply.TheVariants.Called, declared.event.Reply.TheVariants.DeviceFailed}
use Rattle.snap_world.specs.{declared.event.Event.TheVariants.Call, declared.event.Event.TheVariants.Fail}
use Rattle.snap_world.specs.{declared.event.Kind.Kind, declared.drive.Drive.Drive, declared.register.Register.Register}
use Rattle.snap_world.specs.{Phases.writer_to, Phases.Phases}
use Rattle.snap_world.proofs.{Sizes.register_fits, PhaseMoves.writer_there, PhaseMoves.writer_fits}
use Rattle.snap_history.proofs.{Lists.get-set_other}
use Rattle.snap_disk.specs.{declared.fill.Fill.Fill}
use Rattle.snap_persist.specs.declared.persist.Write.TheVariants as write
use Rattle.snap_persist.specs.declared.persist.NextCall.TheVariants as next
use Rattle.snap_persist.specs.declared.persist.Stage.TheVariants as stage
use Rattle.snap_world.specs.declared.writer.WriterPhase.TheVariants as writer

pub stage_size : (i n k : ℕ) (u v : List ℕ) (at : Stage) (d : Device) → k + 1 < 2 ^ 63
    → length v ≤ 4080 → IsAtStage i n k u v at d → length d.bytes ≡ 28672
stage_size i n k u v at d small fits is =
    elim (stage_leaves i n k u v small fits at d is d.bytes (record { size = refl; elsewhere = λ p closed. refl })) [
      | inl file ↦ file.size
      | inr file ↦ file.size
    ]

module _ (i n k : ℕ) (u v : List ℕ) (small : k + 1 < 2 ^ 63) (fits : length v ≤ 4080) (d e : Device) where
  -- the stage after a call that succeeded
  made_goes : (at : Stage) (call : NextCall) (rest : List NextCall) → calls_left at ≡ call ∷ rest → IsAtStage i n k u v
      at d → IsMade ((k + 1) % 3) (body_block (k + 1) v) call d e → IsAtStage i n k u v (after_call at) e
  made_goes at (next.Write w) rest asked is made = search (rules, write_goes)
  made_goes at next.Sync rest asked is made = sync_goes i n k u v small fits d e at (ap first_call asked) is made
  made_goes at next.Done rest asked is made = absurd made

  written : (w : Write) → length (write_bytes (body_block (k + 1) v) w) ≡ write_len w
  written write.Body = length-body_block (k + 1) v fits
  written w = refl

  -- after a call that failed a crash leaves either value
  missed_leaves : (at : Stage) (fill : Fill) (call : NextCall) (rest : List NextCall) → calls_left at ≡ call ∷ rest
      → IsAtStage i n k u v at d → IsMissed ((k + 1) % 3) fill call d e → (b : List ℕ) → MayLeave e b
      → IsEither i n k u v b
  missed_leaves at fill (next.Write w) rest asked is missed =
      write_leaves i n k u v small fits d e at w (ap first_call asked) is
      (subst (λ m. IsTouched (write_at ((k + 1) % 3) w) m d e) (sym (written w)) missed.touched)
  missed_leaves at fill next.Sync rest asked is missed = sync_leaves i n k u v small fits d e at is missed.left
  missed_leaves at fill next.Done rest asked is missed = absurd missed

  pub store_missed : (persist : PersistState) (fill : Fill) (call : NextCall) (rest : List NextCall)
      → calls_left persist.stage ≡ call ∷ rest → IsStoreUnderWay i n k u v d persist
      → IsMissed persist.slot fill call d e → (b : List ℕ) → MayLeave e b → IsEither i n k u v b
  store_missed persist fill call rest asked is missed = missed_leaves persist.stage fill call rest asked is.at_stage
      (subst (λ s. IsMissed s fill call d e) is.slot missed)

  pub store_goes : (persist next : PersistState) (call : NextCall)
      → calls_left persist.stage ≡ call ∷ calls_left next.stage → next.slot ≡ persist.slot
      → next.stage ≡ after_call persist.stage → calls_left next.stage ≢ [] → IsStoreUnderWay i n k u v d persist
      → IsMade persist.slot (body_block (k + 1) v) call d e → IsStoreUnderWay i n k u v e next
  store_goes persist next call asked slot stage going is made = search (rules, made_goes)

  -- after the last call the device is ready for the next store
  pub store_ends : (persist next after : PersistState) (call : NextCall) → calls_left persist.stage
      ≡ call ∷ calls_left next.stage → next.stage ≡ after_call persist.stage → next.stage ≡ stage.Stored
      → after.stage ≡ first_stage true → after.slot ≡ (k + 1 + 1) % 3 → IsStoreUnderWay i n k u v d persist
      → IsMade persist.slot (body_block (k + 1) v) call d e → IsReady i n (k + 1) v e after
  store_ends persist next after call asked stage done first slot is made = search (rules, made_goes)

-- a current store without a call left is stored
pub going_done : (at : Stage) → calls_left at ≢ []
    → first_call (calls_left (after_call at)) ≡ next.Done → after_call at ≡ stage.Stored
going_done at going done = search rules

pub not_done : (at : Stage) → (first_call (calls_left at) ≡ next.Done → ⊥) → calls_left at ≢ []
not_done at not none = not (ap first_call none)

-- the node with one device and its actors changed
abbrev pub with_drive : WorldNode → ℕ → Drive → Actors → WorldNode
with_drive w i e actors = record w { actors = actors; drives = with_item w.drives i e }

module _ (w : WorldNode) (x : State) (stands : NodeStands w x) (i : ℕ) (may : MayStore w i) where
  abbrev n : ℕ
  n = w.actors.segments

  abbrev k : ℕ
  k = number_after from_nothing x.history i

  abbrev u : List ℕ
  u = value_after from_nothing x.history i

  up : IsUp w.actors w.drives.items x
  up = is_up w x may.0 stands

  pub found : (a : WriterActor) × (a ≡ get_or w.actors.writers.items i a)
  found =
      let a = map_element (λ (z : WriterActor). z.phase) w.actors.writers.items i writer.Storing may.1 in
      (a.0, sym (get_or_from_slice_get w.actors.writers.items i a.0 a.0 a.1))

  pub store_within : i < w.actors.segments
  store_within = within w.actors x up.actors_stand i may.1

  at : WriterFound n x.history up.actors_stand.since i x.writers found.0 writer.Storing
  at = the_writer w.actors x up.actors_stand i may.1 found.0 found.1

  begun : HasBegun n x.history up.actors_stand.since i found.0.value found.0.collector at.state
  begun = at.phase.0

  abbrev v : List ℕ
  v = found.0.value

  -- the begun value
  pending_is : (t : WriterState) → slice_get x.writers i ≡ Some t → (z : List ℕ) → t.pending ≡ Begun z → v ≡ z
  pending_is t there z is = cc (same_Some at.state t (sym at.there ∙ there), begun.pending)

  -- the values that the code reads
  pub value_is : (a : WriterActor) → a ≡ get_or w.actors.writers.items i a → a.value ≡ v
  value_is a read = search (rules, same_read, writer_there)

  pub number_is : (r : Register) → r ≡ get_or w.actors.registers.items i r → r.number ≡ k
  number_is r read = (the_register w.actors x up.actors_stand i r store_within read).number

  module _ (d : Drive) (read : d ≡ get_or w.drives.items i d) where
    pub there : slice_get w.drives.items i ≡ Some d
    there = slice_get_read w.drives.items w.actors.segments i d (sym stands.drives_n) store_within read

    pub storing : IsStoreUnderWay i n k u v (device_of d) d.persist
    storing = up.drives_stand i d at.state writer.Storing there at.there may.1 v begun.pending

    -- the device changes, and with it the part and the phase of its writer
    stands_with : (e : Drive) (actors : Actors) (parts : List WriterState) (p : Phases) → actors.segments ≡ n
        → phases_of_actors actors ≡ p → ActorsStand actors (record x { writers = parts }) → SameBut i x.writers parts
        → SameBut i (phases_of_actors w.actors).writers p.writers → ((t : WriterState) (phase : WriterPhase)
        → slice_get parts i ≡ Some t → slice_get p.writers i ≡ Some phase → DriveStands n x.history i phase t.pending e)
        → NodeStands (with_drive w i e actors) (record x { writers = parts })
    stands_with e actors parts p segments moved actors_stand same_parts same_phases here =
        let es = slice_set w.drives.items i e in
        let drives : DrivesStand n x.history parts p.writers es = drives_change n x.history x.history x.writers parts
        (phases_of_actors w.actors).writers p.writers w.drives.items es i same_parts same_phases
        (λ j ne. get-set_other w.drives.items i j e ne)
        (λ j ne. (refl, refl)) (λ f t phase ef et ep. subst (λ z. DriveStands n x.history i phase t.pending z)
        (set_is w.drives.items i e f ef) (here t phase et ep)) up.drives_stand in
        let now : IsUp actors es (record x { writers = parts }) = record {
          actors_stand = actors_stand;
          drives_stand = subst (λ m. DrivesStand m x.history parts (phases_of_actors actors).writers es)
              (sym segments) (subst (λ (q : Phases). DrivesStand n x.history parts q.writers es) (sym moved) drives);
        } in record {
          drives_n = length-set w.drives.items i e ∙ stands.drives_n ∙ sym segments;
          at = subst (IsNodeAt actors es (record x { writers = parts })) (sym may.0) now;
        }

    module _ (e : Drive) (kind : Kind) (number : ℕ) (value : List ℕ) (same_number : number ≡ k)
        (same_value : value ≡ v) (made : IsMade d.persist.slot (body_block (number + 1) value)
        (store_call kind) (device_of d) (device_of e)) where
      made_is : IsMade d.persist.slot (body_block (k + 1) v) (store_call kind) (device_of d) (device_of e)
      made_is = search rules

      made_here : Changes i (IsMade ((k + 1) % 3) (body_block (k + 1) v) (store_call kind))
          (devices_of_node w) (map device_of (slice_set w.drives.items i e))
      made_here = device_changes w.drives.items i d e there
          (IsMade ((k + 1) % 3) (body_block (k + 1) v) (store_call kind)) (subst (λ s. IsMade s
          (body_block (k + 1) v) (store_call kind) (device_of d) (device_of e)) storing.slot made_is)

      -- a call that is not the last one
      pub call_goes : store_left d ≡ store_call kind ∷ store_left e → e.persist.slot ≡ d.persist.slot
          → e.persist.stage ≡ after_call d.persist.stage → calls_left e.persist.stage ≢ [] → (y : State) × Step n x
          (Call i) (Called kind) y × DevicesMove n x (phases_of_node w) (devices_of_node w) (Call i) (Called kind) y
          (map device_of (slice_set w.drives.items i e)) × NodeStands (with_drive w i e w.actors) y
      call_goes asked slot_same stage going =
          let goes : IsStoreUnderWay i n k u v (device_of e) e.persist =
          store_goes i n k u v begun.room begun.fits (device_of d) (device_of e) d.persist e.persist
          (store_call kind) asked slot_same stage going storing made_is in (
            x,
            refl,
            (at.state, v, at.there, begun.pending, made_here),
            stands_with e w.actors x.writers (phases_of_actors w.actors) refl refl up.actors_stand
                (λ j ne. refl) (λ j ne. refl) (λ t phase et ep. subst (λ z. DriveStands n x.history i z t.pending e)
                (same_Some writer.Storing phase (sym may.1 ∙ ep)) (λ z is. subst (λ b. IsStoreUnderWay i n k u b
                (device_of e) e.persist) (pending_is t et z is) goes)),
          )

      -- the last one, after which the device is ready for the next store
      pub call_ends : (next : PersistState) (actors : Actors) → store_left d ≡ store_call kind ∷ calls_left next.stage
          → next.stage ≡ after_call d.persist.stage → next.stage ≡ stage.Stored → e.persist.stage ≡ first_stage true
          → e.persist.slot ≡ (number + 1 + 1) % 3 → actors.segments ≡ w.actors.segments → ActorsStand actors x
          → phases_of_actors actors ≡ writer_to (phases_of_actors w.actors) i writer.Stored → (y : State) × Step n x
          (Call i) (Called kind) y × DevicesMove n x (phases_of_node w) (devices_of_node w) (Call i) (Called kind) y
          (map device_of (slice_set w.drives.items i e)) × NodeStands (with_drive w i e actors) y
      call_ends next actors asked after done first slot segments actors_stand moved =
          let phases = (phases_of_actors w.actors).writers in
          let ends : IsReady i n (k + 1) v (device_of e) e.persist =
          store_ends i n k u v begun.room begun.fits (device_of d) (device_of e) d.persist next e.persist
          (store_call kind) asked after done first (slot ∙ ap (λ m. (m + 1 + 1) % 3) same_number) storing made_is in (
            x,
            refl,
            (at.state, v, at.there, begun.pending, made_here),
            stands_with e actors x.writers (writer_to (phases_of_actors w.actors) i writer.Stored) segments moved
                actors_stand (λ j ne. refl) (λ j ne. get-set_other phases i j writer.Stored ne) (λ t phase et ep. subst
                (λ z. DriveStands n x.history i z t.pending e) (set_is phases i writer.Stored phase ep)
                (λ z is. subst (λ b. IsReady i n (k + 1) b (device_of e) e.persist) (pending_is t et z is) ends)),
          )

    -- a call that failed
    pub call_fails : (e : Drive) (fill : Fill) (call : NextCall) (rest : List NextCall) (actors : Actors)
        → store_left d ≡ call ∷ rest → IsMissed d.persist.slot fill call (device_of d) (device_of e) → actors.segments
        ≡ w.actors.segments → ((s : WriterState) (z : List ℕ) → slice_get x.writers i ≡ Some s → s.pending ≡ Begun z
        → ActorsStand actors (with_writer x i (record s { fenced = true }))) → phases_of_actors actors
        ≡ writer_to (phases_of_actors w.actors) i writer.Fenced → (y : State) × Step n x (Fail i fill) DeviceFailed y
        × DevicesMove n x (phases_of_node w) (devices_of_node w) (Fail i fill) DeviceFailed y
        (map device_of (slice_set w.drives.items i e)) × NodeStands (with_drive w i e actors) y
    call_fails e fill call rest actors asked missed segments actors_stand moved =
        let phases = (phases_of_actors w.actors).writers in
        let leaves : (b : List ℕ) → MayLeave (device_of e) b → IsEither i n k u v b = store_missed i n k u v begun.room
        begun.fits (device_of d) (device_of e) d.persist fill call rest asked storing missed in
        let s : WriterState = record (at.state) { fenced = true } in (
          with_writer x i s,
          (at.state, v, at.there, begun.pending, refl),
          (
            call,
            rest,
            map_at store_left w.drives.items i d there ∙ ap (λ z. Some z) asked,
            device_changes w.drives.items i d e there (IsMissed ((k + 1) % 3) fill call)
                (subst (λ z. IsMissed z fill call (device_of d) (device_of e)) storing.slot missed),
          ),
          stands_with e actors (slice_set x.writers i s) (writer_to (phases_of_actors w.actors) i writer.Fenced)
              segments moved (actors_stand at.state v at.there begun.pending) (λ j ne. get-set_other x.writers i j s ne)
              (λ j ne. get-set_other phases i j writer.Fenced ne) (λ t phase et ep. subst (λ z. DriveStands n x.history
              i z t.pending e) (set_is phases i writer.Fenced phase ep) (λ z is. subst (λ c. (b : List ℕ)
              → MayLeave (device_of e) b → IsEither i n k u c b) (pending_is at.state at.there z
              (ap (λ (r : WriterState). r.pending) (set_is x.writers i s t et) ∙ is)) leaves)),
        )

-- the phases after a call

after_going : (p : WorldPhases) (w : ℕ) (calls : List NextCall) (q : WorldPhases) → calls ≢ []
    → q ≡ record p { calls = slice_set p.calls w calls } → AfterCall p w calls q
after_going p w [] q going is = absurd (going refl)
after_going p w (call ∷ calls) q going is = is

module _ (w : WorldNode) (i : ℕ) (d : Drive) (there : slice_get w.drives.items i ≡ Some d) where
  -- the calls that are left on this device, and the phases of the actors, change
  phases_with : (e : Drive) (calls : List NextCall) (actors : Actors) (p : Phases) → store_left e ≡ calls
      → phases_of_actors actors ≡ p → phases_of_node (with_drive w i e actors) ≡ record (phases_of_node w) {
        actors = p;
        calls = slice_set (map store_left w.drives.items) i calls;
      }
  phases_with e calls actors p left moved = search (rules, same_phases, map-set)

  pub fail_moves : (n : ℕ) (x : State) (e : Drive) (actors : Actors) (fill : Fill) → store_left e ≡ []
      → phases_of_actors actors ≡ writer_to (phases_of_actors w.actors) i writer.Fenced
      → PhasesMove n x (phases_of_node w) (Fail i fill) DeviceFailed (phases_of_node (with_drive w i e actors))
  fail_moves n x e actors fill none moved = search (rules, phases_with)

  module _ (kind : Kind) where
    pub call_moves : (n : ℕ) (x : State) (e : Drive) → store_left d ≡ store_call kind ∷ store_left e
        → calls_left e.persist.stage ≢ []
        → PhasesMove n x (phases_of_node w) (Call i) (Called kind) (phases_of_node (with_drive w i e w.actors))
    call_moves n x e asked going = (
      store_left e,
      map_at store_left w.drives.items i d there ∙ ap (λ z. Some z) asked,
      after_going (phases_of_node w) i (store_left e) (phases_of_node (with_drive w i e w.actors))
          going (phases_with e (store_left e) w.actors (phases_of_actors w.actors) refl refl),
    )

    pub call_stores : (n : ℕ) (x : State) (e : Drive) (actors : Actors) → store_left d ≡ store_call kind ∷ []
        → store_left e ≡ store_calls true
        → phases_of_actors actors ≡ writer_to (phases_of_actors w.actors) i writer.Stored
        → PhasesMove n x (phases_of_node w) (Call i) (Called kind) (phases_of_node (with_drive w i e actors))
    call_stores n x e actors asked next moved = search (rules, map_at, there, phases_with)

-- the facts for the code
module _ (w : WorldNode) (i : ℕ) (may : MayStore w i) (t : NodeStand w) where
  pub segment_there : i < w.actors.segments
  segment_there = ∥∥₁_elim t (hlevel props) (λ q. store_within w q.0 q.1 i may)

  pub indices_fit : (i < vec_len w.actors.registers) × (i < vec_len w.actors.writers)
  indices_fit = (register_fits w.actors (actors_of w may.0 t) i may.1, writer_fits w.actors i may.1)

  pub drive_fits : i < vec_len w.drives
  drive_fits = ∥∥₁_elim t (hlevel props) (λ q. (
      omega (arith, store_within w q.0 q.1 i may, q.1.drives_n, w.drives.ok.0)))

  pub number_room : (r : Register) → r ≡ get_or w.actors.registers.items i r → r.number + 1 < 2 ^ 63
  number_room r read = ∥∥₁_elim t (hlevel props) (λ q. (
      omega (arith, number_is w q.0 q.1 i may r read, (begun w q.0 q.1 i may).room)))

  pub value_fits : (a : WriterActor) → a ≡ get_or w.actors.writers.items i a → length a.value ≤ 4080
  value_fits a read = ∥∥₁_elim t (hlevel props) (λ q. subst (λ (z : List ℕ). length z ≤ 4080)
      (sym (value_is w q.0 q.1 i may a read)) (begun w q.0 q.1 i may).fits)

  module _ (d : Drive) (read : d ≡ get_or w.drives.items i d) where
    pub drive_size : length (device_of d).bytes ≡ 28672
    drive_size = ∥∥₁_elim t (hlevel props) (λ q. (
        let under_way = storing w q.0 q.1 i may d read in
        let is = begun w q.0 q.1 i may in
        stage_size i w.actors.segments (number_after from_nothing q.0.history i) (value_after from_nothing q.0.history
        i) (found w q.0 q.1 i may).0.value d.persist.stage (device_of d) is.room is.fits under_way.at_stage))

    pub slot_low : d.persist.slot < 3
    slot_low = ∥∥₁_elim t (hlevel props) (λ q. (omega (arith, (storing w q.0 q.1 i may d read).slot)))

    pub call_left : calls_left d.persist.stage ≢ []
    call_left none = ∥∥₁_elim t (hlevel props) (λ q. (storing w q.0 q.1 i may d read).going none)

pub ruleset store_facts = (
  actors_of,
  segment_there,
  indices_fit,
  drive_fits,
  number_room,
  value_fits,
  drive_size,
  slot_low,
  call_left,
)
