-- The begun updates that a restart takes, and the end of a restart as a step of the node.
use Rattle.std.proofs.Common.{rules, ◌≡◌, ◌≢◌, ℕ, zero, suc, ◌+◌, ◌<◌, ◌⊎◌, inl, inr, Bool, true, false, List, [], ◌∷◌}
use Rattle.std.proofs.Common.{◌++◌, Option, Some, None, slice_get, refl, ap, ◌∙◌, arith, length, map, sym, subst}
use Rattle.snap_history.specs.History.{Update, Start, updates_of, last_value, number_after, value_after, from_nothing}
use Rattle.snap_history.specs.History.{IsMemory}
use Rattle.snap_history.proofs.Moments.{updates-append, last-append, last_none}
use Rattle.snap_world.specs.Machine.{WriterState, Pending, Free, Begun, Shown, begun_update, chosen, State}
use Rattle.snap_world.specs.Machine.{ScannerState, Closed, resting, history_with, served}
use Rattle.snap_world.specs.inside.Recovery.{found_value, IsReadable, AllReadable, IsResumed, IsRecovered, AreRecovered}
use Rattle.snap_world.specs.inside.NodeStands.{NodeStands, NodeStand, IsSized, ActorsRest, IsRecovering, IsNodeAt}
use Rattle.snap_world.specs.inside.Drives.{IsReady, DrivesStand, HoldsEither, device_of}
use Rattle.snap_world.proofs.Restarts.{sized, few_drives, opening_within, opening_fits, some_file}
use Rattle.snap_world.proofs.Elements.{map_element, map_same, origin, map_at}
use Rattle.snap_slot.proofs.Whole.{found_is, found_holds, found_rests}
use Rattle.std.proofs.{lemmas.Option.slice_get_within, lemmas.Option.same_Some, lemmas.Bool.Decides.nat_tests}
use Rattle.std.proofs.{lemmas.List.length-map, Props.props, Math.Logic.∥∥₁_elim, Math.Logic.∥∥₁_map}
use Rattle.std.specs.{Prelude.unwrap_or, Global.Vec}
use Rattle.snap_history.specs.{Pairs.Pairs}
use Rattle.snap_history.proofs.{Pairs.element}
use Rattle.snap_world.specs.{inside.Steps.phases_of_actors, inside.NodeSteps.store_left, inside.Stands.ActorsStand}
use Rattle.snap_world.specs.{inside.Gathers.RegisterStands, declared.node.NodePhase.TheVariants.Ready}
use Rattle.snap_world.specs.{declared.node.WorldNode.WorldNode, declared.register.Register.Register}
use Rattle.snap_world.specs.{declared.drive.Drive.Drive}
use Rattle.snap_world.specs.{declared.actors.Actors.Actors, Devices.IsServed, Devices.AreServed, NodePhases.all_idle}
use Rattle.snap_world.proofs.{NewWorld.phases_idle, NewWorld.idle_stand}
use Rattle.snap_disk.specs.{Device.Device, Device.IsSettled, Image.image_device}
use Rattle.snap_slot.proofs.{Readings.holds_same}
use Rattle.snap_slot.specs.{Layout.Holds, Layout.IsSpare, Findings.IsFound, States.IsAtRest}
use Rattle.snap_persist.specs.{declared.persist.NextCall.NextCall, Stage.store_calls}

abbrev begun_value : Pending → Option (List ℕ)
begun_value Free = None
begun_value (Begun v) = Some v
begun_value (Shown v) = None

-- the value that segment i gets by the marked updates
abbrev pub taken : List WriterState → List Bool → ℕ → Option (List ℕ)
taken [] marks i = None
taken (s ∷ ss) [] i = None
taken (s ∷ ss) (false ∷ marks) zero = None
taken (s ∷ ss) (true ∷ marks) zero = begun_value s.pending
taken (s ∷ ss) (mark ∷ marks) (suc i) = taken ss marks i

-- how many updates it gets by them, and its value if d is the one before
abbrev pub times : Option (List ℕ) → ℕ
times None = 0
times (Some v) = 1

-- the begun update is of its segment alone
begun-other : (i j : ℕ) (p : Pending) → i ≢ j → updates_of j (begun_update i p) ≡ 0
begun-other i j (Begun v) ne = grind (arith, nat_tests)
begun-other i j p ne = refl

begun-same : (i j : ℕ) (p : Pending) (d : List ℕ) → i ≡ j → (updates_of j (begun_update i p) ≡ times (begun_value p))
    × (last_value d j (begun_update i p) ≡ unwrap_or (begun_value p) d)
begun-same i j p d e = search (rules, nat_tests)

chosen-below : (ss : List WriterState) (marks : List Bool) (k j : ℕ) → j < k → updates_of j (chosen k ss marks) ≡ 0
chosen-below (s ∷ ss) (false ∷ marks) k j l = chosen-below ss marks (suc k) j (omega arith)
chosen-below (s ∷ ss) (true ∷ marks) k j l =
    search (rules, updates-append, begun-other, chosen-below ss marks (suc k) j (omega arith))
chosen-below ss marks k j l = refl

-- a segment has the update that it takes, once and last
chosen-is : (ss : List WriterState) (marks : List Bool) (k i j : ℕ) (d : List ℕ) → j ≡ k + i
    → (updates_of j (chosen k ss marks) ≡ times (taken ss marks i))
    × (last_value d j (chosen k ss marks) ≡ unwrap_or (taken ss marks i) d)
chosen-is (s ∷ ss) (false ∷ marks) k zero j d e = search (rules, chosen-below, last_none)
chosen-is (s ∷ ss) (false ∷ marks) k (suc i) j d e = chosen-is ss marks (suc k) i j d (omega arith)
chosen-is (s ∷ ss) (true ∷ marks) k zero j d e =
    search (rules, begun-same k j s.pending d (omega arith), chosen-below, updates-append, last-append, last_none)
chosen-is (s ∷ ss) (true ∷ marks) k (suc i) j d e =
    search (rules, begun-other, updates-append, last-append, last_none, chosen-is ss marks (suc k) i j d (omega arith))
chosen-is ss marks k i j d e = (refl, refl)

-- the number and value of segment i after a restart
pub served-is : (start : Start) (h : List Update) (ss : List WriterState) (marks : List Bool) (i : ℕ)
    → (number_after start (h ++ chosen 0 ss marks) i ≡ number_after start h i + times (taken ss marks i))
    × (value_after start (h ++ chosen 0 ss marks) i ≡ unwrap_or (taken ss marks i) (value_after start h i))
served-is start h ss marks i =
    search (rules, chosen-is ss marks 0 i i (last_value (start i).1 i h) (omega arith), updates-append, last-append)

-- If each segment's device gives either the history's part or the begun one, some marks give exactly these.

abbrev pub Given : (A : ℕ → Type 0) → (B : ℕ → List ℕ → Type 0) → List WriterState → List Bool → ℕ → Type 0
Given A B ss marks i = ((taken ss marks i ≡ None) × A i) ⊎ ((v : List ℕ) × (taken ss marks i ≡ Some v) × B i v)

given_cons : (A : ℕ → Type 0) (B : ℕ → List ℕ → Type 0) (s : WriterState) (ss : List WriterState) (mark : Bool)
    (marks : List Bool) → Given A B (s ∷ ss) (mark ∷ marks) 0
    → ((i : ℕ) (t : WriterState) → slice_get ss i ≡ Some t → Given (λ k. A (suc k)) (λ k. B (suc k)) ss marks i)
    → (i : ℕ) (t : WriterState) → slice_get (s ∷ ss) i ≡ Some t → Given A B (s ∷ ss) (mark ∷ marks) i
given_cons A B s ss mark marks here rest zero t e = here
given_cons A B s ss false marks here rest (suc i) t e = rest i t e
given_cons A B s ss true marks here rest (suc i) t e = rest i t e

pub marks-exist : (A : ℕ → Type 0) (B : ℕ → List ℕ → Type 0) (ss : List WriterState)
    → ((i : ℕ) (s : WriterState) → slice_get ss i ≡ Some s → A i ⊎ ((v : List ℕ) × (s.pending ≡ Begun v) × B i v))
    → (marks : List Bool) × ((i : ℕ) (s : WriterState) → slice_get ss i ≡ Some s → Given A B ss marks i)
marks-exist A B [] given = ([], λ i s e. cc)
marks-exist A B (s ∷ ss) given =
    let rest = marks-exist (λ k. A (suc k)) (λ k. B (suc k)) ss (λ i t e. given (suc i) t e) in elim (given 0 s refl) [
      | inl a ↦ (false ∷ rest.0, given_cons A B s ss false rest.0 (inl (refl, a)) rest.1)
      | inr b ↦ (true ∷ rest.0, given_cons A B s ss true rest.0 (inr (b.0, ap begun_value b.1, b.2)) rest.1)
    ]

module _ (w : WorldNode) (x : State) (stands : NodeStands w x) (is_ready : w.phase ≡ Ready) where
  abbrev pub n : ℕ
  n = w.actors.segments

  abbrev pub ds : List Drive
  ds = w.drives.items

  pub at : IsRecovering w.actors ds x n n
  at = subst (IsNodeAt w.actors ds x) is_ready stands.at

  size : length ds ≡ n
  size = stands.drives_n

  rest : ActorsRest w.actors x
  rest = at.down.actors_rest

  sizes : IsSized w.actors x
  sizes = rest.sized

  module _ (i : ℕ) (d : Drive) (there : slice_get ds i ≡ Some d) where
    low : i < n
    low = search (rules, slice_get_within, size)

    pub settled : IsSettled (device_of d)
    settled = at.settled i d there low

    pub found : IsFound i n (device_of d).bytes d.found
    found = at.found i d there low

    pub state : (s : WriterState) × (slice_get x.writers i ≡ Some s)
    state = element x.writers i (omega (arith, low, sizes.writers, sizes.writers_n))

    pub either : (s : WriterState) → slice_get x.writers i ≡ Some s → HoldsEither i n
        (number_after from_nothing x.history i) (value_after from_nothing x.history i) s.pending (device_of d).bytes
    either s es = search rules

    pub long : length (device_of d).bytes ≡ 28672
    long = elim (either state.0 state.1) [ inl file ↦ file.size | inr new ↦ new.2.size ]

    pub readable : IsReadable d
    readable = search (rules, long, found)

  -- the device holds the number and value of the history, or those of the begun update
  abbrev Kept : ℕ → Type 0
  Kept i = (d : Drive) → slice_get ds i ≡ Some d → (d.found.number ≡ number_after from_nothing x.history i)
      × (found_value d ≡ value_after from_nothing x.history i)

  abbrev Taken : ℕ → List ℕ → Type 0
  Taken i v = (d : Drive) → slice_get ds i ≡ Some d
      → (d.found.number ≡ number_after from_nothing x.history i + 1) × (found_value d ≡ v)

  -- the number and value that were found on a device are those that it holds
  found_as : (i k : ℕ) (v : List ℕ) (d : Drive) → slice_get ds i ≡ Some d → Holds (device_of d).bytes k v → (e : Drive)
      → slice_get ds i ≡ Some e → (e.found.number ≡ k) × (found_value e ≡ v)
  found_as i k v d there holds e also = subst (λ (z : Drive). (z.found.number ≡ k) × (found_value z ≡ v))
      (same_Some d e (sym there ∙ also)) (found_is i n k v (device_of d).bytes d.found (found i d there) holds)

  given : (i : ℕ) (s : WriterState) → slice_get x.writers i ≡ Some s → Kept i
      ⊎ ((v : List ℕ) × (s.pending ≡ Begun v) × Taken i v)
  given i s es =
      let low = slice_get_within x.writers i s es in
      let d = element ds i (omega (arith, low, sizes.writers, sizes.writers_n, size)) in
      let k = number_after from_nothing x.history i in elim (either i d.0 d.1 s es) [
        | inl file ↦ inl (found_as i k (value_after from_nothing x.history i) d.0 d.1 file.holds)
        | inr new ↦ inr (new.0, new.1, found_as i (k + 1) new.0 d.0 d.1 new.2.holds)
      ]

  chose : (marks : List Bool) × ((i : ℕ) (s : WriterState) → slice_get x.writers i ≡ Some s
      → Given Kept Taken x.writers marks i)
  chose = marks-exist Kept Taken x.writers given

  pub marks : List Bool
  marks = chose.0

  abbrev pub h : List Update
  h = history_with x marks

  -- the numbers and values that were found are those after the history with these updates
  pub is_after : (i : ℕ) (d : Drive) → slice_get ds i ≡ Some d
      → (d.found.number ≡ number_after from_nothing h i) × (found_value d ≡ value_after from_nothing h i)
  unfolding marks
  is_after i d there =
      let s = state i d there in
      let served = served-is from_nothing x.history x.writers marks i in
      let number : number_after from_nothing h i
      ≡ number_after from_nothing x.history i + times (taken x.writers marks i) = served.0 in
      let Value : Option (List ℕ) → List ℕ = λ t. unwrap_or t (value_after from_nothing x.history i) in
      search (rules, marks)

  pub memory : IsMemory n from_nothing h (map found_value ds)
  memory = record {
    size = length-map ds found_value ∙ size;
    values = λ i l. (let d = element ds i (omega (arith, size)) in
        map_at found_value ds i d.0 d.1 ∙ ap (λ v. Some v) (is_after i d.0 d.1).1);
  }

  module _ (registers : Vec Register) (es : List Drive)
      (recovered : AreRecovered ds w.actors.registers.items registers.items)
      (resumed : Pairs (λ i. IsResumed) ds es) where
    -- the actors with the registers that were found
    abbrev pub actors : Actors
    actors = record (w.actors) { registers = registers }

    abbrev pub y : State
    y = served x marks

    register_stands : (i : ℕ) (r : Register) → slice_get registers.items i ≡ Some r → RegisterStands n h i r
    register_stands i r er =
        let o = origin i r recovered er in
        let low = slice_get_within w.actors.registers.items i o.0 o.1 in
        let d = element ds i (omega (arith, low, sizes.registers_n, size)) in
        let is : IsRecovered d.0 o.0 r = o.2 d.0 d.1 in
        let after = is_after i d.0 d.1 in
        record { number = is.number ∙ after.0; value = is.value ∙ after.1; size = search rules }

    -- nothing was shown since the restart
    pub actors_stand : ActorsStand actors y
    actors_stand = idle_stand actors y (record {
      sized = record {
        least = sizes.least;
        most = sizes.most;
        registers_n = sym recovered.size ∙ sizes.registers_n;
        views_n = λ i r e. (register_stands i r e).size;
        writers_n = sizes.writers_n;
        writers = sizes.writers ∙ sym (length-map x.writers (λ (z : WriterState). resting));
        writers_memory = sizes.writers_memory;
        scanners = sizes.scanners ∙ sym (length-map x.scanners (λ (z : ScannerState). Closed));
        scanners_memory = sizes.scanners_memory;
      };
      writers = rest.writers;
      scanners = rest.scanners;
    }) register_stands (λ i s e. (map_element (λ (z : WriterState). resting) x.writers i s e).2)
        (λ i s e. (map_element (λ (z : ScannerState). Closed) x.scanners i s e).2)

    ready : (i : ℕ) (e : Drive) → slice_get es i ≡ Some e
        → IsReady i n (number_after from_nothing h i) (value_after from_nothing h i) (device_of e) e.persist
    ready i e ee =
        let d = origin i e resumed ee in
        let after = is_after i d.0 d.1 in
        let rest : IsAtRest i n d.0.found.number (found_value d.0) d.0.found.spare_open (device_of d.0) = found_rests i
        n (device_of d.0).bytes d.0.found (device_of d.0) (found i d.0 d.1) (settled i d.0 d.1) refl (long i d.0 d.1) in
        let At : ℕ → List ℕ → Device → Type 0 = λ k v z. IsAtRest i n k v d.0.found.spare_open z in search (rules, rest)

    pub drives_stand : DrivesStand actors.segments y.history y.writers (phases_of_actors actors).writers es
    drives_stand i e s phase ee es_ ep = search (rules, map_element, ready)

    pub same_devices : map device_of es ≡ map device_of ds
    same_devices = map_same device_of es ds (sym resumed.size) (λ i e d ee ed.
        ap image_device (resumed.each i d e ed ee).image)

    pub device_served : AreServed n y (map device_of es)
    device_served i device there =
        let e = map_element device_of es i device there in
        let d = origin i e.0 resumed e.1 in
        let after = is_after i d.0 d.1 in
        let same : device_of d.0 ≡ device = ap image_device (sym d.2.image) ∙ e.2 in
        let holds : Holds (device_of d.0).bytes d.0.found.number (found_value d.0) =
        found_holds i n (device_of d.0).bytes d.0.found (found i d.0 d.1) in
        let here : IsServed i n y (device_of d.0) = record {
          head = (found i d.0 d.1).head;
          holds = subst (λ v. Holds (device_of d.0).bytes (number_after from_nothing h i) v) after.1
              (subst (λ k. Holds (device_of d.0).bytes k (found_value d.0)) after.0 holds);
        } in subst (IsServed i n y) same here

    pub gates : (i : ℕ) (device : Device) (calls : List NextCall) → slice_get (map device_of es) i ≡ Some device
        → slice_get (map store_left es) i ≡ Some calls → (spare_open : Bool) × (calls ≡ store_calls spare_open)
        × ((k : ℕ) (v : List ℕ) → Holds device.bytes k v → IsSpare spare_open device.bytes k)
    gates i device calls there called =
        let e = map_element device_of es i device there in
        let f = map_element store_left es i calls called in
        let d = origin i e.0 resumed e.1 in
        let same : device_of d.0 ≡ device = ap image_device (sym d.2.image) ∙ e.2 in
        let one : f.0 ≡ e.0 = same_Some _ _ (sym f.1 ∙ e.1) in
        let is = found i d.0 d.1 in
        let Spare : Device → Type 0 = λ z. (k : ℕ) (v : List ℕ) → Holds z.bytes k v
        → IsSpare d.0.found.spare_open z.bytes k in
        let spare : Spare (device_of d.0) = λ k v holds. subst (IsSpare d.0.found.spare_open
        (device_of d.0).bytes) (holds_same (device_of d.0).bytes d.0.found.number k (found_value d.0) v
        (found_holds i n (device_of d.0).bytes d.0.found is) holds).0 is.held.spare in
        (d.0.found.spare_open, sym f.2 ∙ ap store_left one ∙ d.2.calls, subst Spare same spare)

    pub idle_phases : phases_of_actors actors ≡ all_idle (phases_of_actors w.actors)
    idle_phases = search (rules, phases_idle, length-map)

-- the facts for the code
module _ (w : WorldNode) (t : NodeStand w) where
  pub all_readable : w.phase ≡ Ready → ∥ AllReadable w.drives.items ∥₁
  all_readable is = ∥∥₁_map t (λ q. readable w q.0 q.1 is)

  pub registers_there : length w.actors.registers.items ≡ length w.drives.items
  registers_there = ∥∥₁_elim t (hlevel props) (search (rules, sized))

pub ruleset restart_facts = (few_drives, opening_within, opening_fits, some_file, all_readable, registers_there)
