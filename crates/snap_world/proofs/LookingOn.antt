-- The events of a scan as steps of the actors: what a scanner is asked for, one look, also of a writer's embedded
-- scan, and the reply.
-- a scan of all segments names existing ones
use Rattle.snap_history.specs.History.{Update, from_nothing, IsMemory}
use Rattle.snap_scan.specs.Sets.{named, size, IsAt}
use Rattle.snap_world.specs.Phases.{ScannerIs, scanner_to, WriterIs, writer_to}
use Rattle.snap_world.specs.Machine.{State, Closed, Opened, with_scanner, WriterState, ScannerState, IsLook}
use Rattle.snap_world.specs.Machine.{with_writer}
use Rattle.snap_world.specs.declared.event.Reply.TheVariants.{ScanBegun, Memory, Part, Number, NotNow}
use Rattle.snap_world.specs.Answers.{ScanState, scan_from, IsAnswer, all_of, set_of, value_at, entry_at, part_at}
use Rattle.snap_world.specs.inside.Steps.{phases_of_actors, asking, IsReplyOf}
use Rattle.snap_world.specs.inside.Stands.{ActorsStand, Stand, WriterStands, ScannerStands, HasBegun}
use Rattle.snap_world.specs.inside.Gathers.{IsSeen, entry_in, value_in, Gathers, IsLookOf, IsUnderWay, MayLook}
use Rattle.snap_world.specs.inside.Gathers.{RegistersStand}
use Rattle.snap_world.proofs.PhaseMoves.{with_actors_scanner, scanner_moved, writers_phases, writer_read, scanner_read}
use Rattle.snap_world.proofs.PhaseMoves.{scanner_there, with_actors_writer, writer_moved, writer_kept, scanner_kept}
use Rattle.snap_world.proofs.Looks.{undecided, decided, look_from}
use Rattle.snap_world.proofs.Events.{up_at, came, refuses, store_begins, writer_goes, scanner_goes}
use Rattle.snap_world.proofs.Moves.{whole, WriterFound, ScannerFound, the_writer, the_scanner, within, answered}
use Rattle.std.proofs.Common.{rules, ◌≡◌, ℕ, suc, ◌^◌, ◌<◌, ◌≤◌, List, [], ◌∷◌, length, map, take, Some, slice_get}
use Rattle.std.proofs.Common.{refl, ap, sym, ◌∙◌, subst, arith, ◌⊎◌, inl, inr, ◌++◌, get_or}
use Rattle.std.proofs.lemmas.Option.{get_or_from_slice_get, slice_get_within, same_Some}
use Rattle.snap_scan.proofs.{Sets.some}
use Rattle.snap_scan.specs.{declared.set.SegmentSet.SegmentSet}
use Rattle.snap_world.specs.{NodePhases.WorldPhases, NodePhases.LooksOn, declared.scanner.ScannerActor.ScannerActor}
use Rattle.snap_world.specs.{declared.scanner.ScannerPhase.ScannerPhase, declared.scanner.Asked.TheVariants.All}
use Rattle.snap_world.specs.{declared.scanner.Asked.TheVariants.Only, declared.scanner.Asked.Asked}
use Rattle.snap_world.specs.{declared.collector.Collector.Collector, declared.writer.WriterPhase.WriterPhase}
use Rattle.snap_world.specs.{declared.writer.WriterActor.WriterActor, declared.register.Register.Register}
use Rattle.snap_world.specs.{declared.drive.Drive.Drive, declared.actors.Actors.Actors}
use Rattle.snap_world.specs.{declared.event.Event.TheVariants.Answer, declared.event.Event.TheVariants.Look}
use Rattle.snap_world.specs.{declared.event.Reply.Reply, inside.NodeStands.IsUp, inside.Drives.DriveStands}
use Rattle.snap_world.specs.inside.NodeSteps.{IsActorsStep, node_of}
use Rattle.snap_world.proofs.{Sizes.all_some}
use Rattle.std.proofs.{Math.Nat.pow-le-pow_right, Math.Logic.∥∥₁_map, lemmas.Nat.pow_pos}
use Rattle.std.specs.{Global.Vec}
use Rattle.snap_world.specs.declared.scanner.ScannerPhase.TheVariants as scanner
use Rattle.snap_world.specs.declared.event.Actor.TheVariants as actor
use Rattle.snap_world.specs.declared.writer.WriterPhase.TheVariants as writer

pub all_among : (n : ℕ) → all_of n < 2 ^ n
all_among n = let pos : 0 < 2 ^ n = pow_pos n in omega arith

pub some_named : (n set : ℕ) → n ≤ 16 → 0 < set → set < 2 ^ n → 0 < size set
some_named n set most pos among = search (rules, pow-le-pow_right, some)

-- a scan of no segment, or of one that isn't there, doesn't begin
pub asks_none : (w : Actors) (i : ℕ) (asked : Asked) → (0 < set_of w.segments asked
    → set_of w.segments asked < 2 ^ w.segments → ⊥) → IsActorsStep w (asking i asked) NotNow w
asks_none w i All none = record {
  each = λ ds. refuses (node_of w ds) _
      (λ x node e. none (all_some w.segments node.at.actors_stand.least) (all_among w.segments));
}
asks_none w i (Only set) none = record {
  each = λ ds. refuses (node_of w ds) _ (λ x node e.
      none e.2.0 (subst (λ m. set.bits < 2 ^ m) (writers_phases w x node.at.actors_stand) e.2.1));
}

-- the answer of a scan in other words
IsAnswer-as : {set : ℕ} {h : List Update} {s : ScanState} {Is : ℕ → Type 0}
    (a : IsAnswer set h s Is) (As : ℕ → Type 0) → As a.p → IsAnswer set h s As
IsAnswer-as a As is = record { p = a.p; moment = a.moment; is_moment = a.is_moment; is = is }

-- the entries of the memory are those of the moment
entries : (h : List Update) (set : ℕ) (memory : List (List ℕ)) (p : ℕ) → IsSeen set h memory p
    → map (entry_in memory) (named set) ≡ part_at set h p
entries h set memory p seen = same (named set) (λ place j at.
    get_or_from_slice_get memory j (value_at h p j) [] (seen place j at)) where
      same : (js : List ℕ) → ((place j : ℕ) → slice_get js place ≡ Some j → value_in memory j ≡ value_at h p j)
          → map (entry_in memory) js ≡ map (entry_at h p) js
      same [] alike = refl
      same (j ∷ js) alike = cc (alike 0 j refl, same js (λ place. alike (suc place)))

module _ (w : Actors) (i : ℕ) (a : ScannerActor) where
  moves : (p : ScannerPhase) → a.phase ≡ p → (ds : Vec Drive)
      → up_at ds (phases_of_actors (with_actors_scanner w i a)) ≡ up_at ds (scanner_to (phases_of_actors w) i p)
  moves p e ds = ap (up_at ds) (scanner_moved w i a ∙ ap (scanner_to (phases_of_actors w) i) e)

  -- a scanner begins a scan of what it is asked for
  pub asks : (asked : Asked) → ScannerIs (phases_of_actors w) i scanner.Idle → 0 < set_of w.segments asked
      → set_of w.segments asked < 2 ^ w.segments → a.phase ≡ scanner.Scanning
      → ((ds : List Drive) (x : State) → IsUp w ds x → (slice_get x.scanners i ≡ Some Closed)
      × IsUp (with_actors_scanner w i a) ds (with_scanner x i (Opened asked (scan_from (length x.history)))))
      → IsActorsStep w (asking i asked) ScanBegun (with_actors_scanner w i a)
  asks All is some among phase goes = came w _ _ _ (λ e. cc) (λ _ _ _ _ _ _. (refl, tt)) refl
      (λ ds x up. (let f = goes ds x up in (_, (f.0, refl), f.1))) (λ ds x stands. (refl, is))
      (λ ds x stands. moves scanner.Scanning phase ds)
  asks (Only set) is some among phase goes = came w _ _ _ (λ e. cc) (λ _ _ _ _ _ _. (refl, tt)) refl
      (λ ds x up. (let f = goes ds x up in (_, (f.0, refl), f.1))) (λ ds x stands. (
        refl,
        is,
        (some, subst (λ m. set.bits < 2 ^ m) (sym (writers_phases w x stands)) among),
      )) (λ ds x stands. moves scanner.Scanning phase ds)

  -- a scanner answers what it was asked for
  pub answers : (asked : Asked) (memory : List (List ℕ)) (reply : Reply) → IsReplyOf asked memory reply
      → ScannerIs (phases_of_actors w) i scanner.Ready → a.phase ≡ scanner.Idle → ((ds : List Drive) (x : State)
      → IsUp w ds x → (scan : ScanState) × (slice_get x.scanners i ≡ Some (Opened asked scan))
      × IsAnswer (set_of w.segments asked) x.history scan (IsSeen (set_of w.segments asked) x.history memory)
      × (length memory ≡ w.segments) × IsUp (with_actors_scanner w i a) ds (with_scanner x i Closed))
      → IsActorsStep w (Answer i) reply (with_actors_scanner w i a)
  answers All memory (Memory m) is ready phase goes = came w _ _ _ (λ e. cc) (λ _ _ _ _ _ _. (refl, tt)) refl
      (λ ds x up. (let f = goes ds x up in (
        _,
        (
          f.0,
          f.1,
          IsAnswer-as f.2 _ (subst (IsMemory w.segments from_nothing (take f.2.p x.history))
              (sym is) (whole w.segments x.history memory f.2.p up.actors_stand.most f.3 f.2.is)),
          refl,
        ),
        f.4,
      ))) (λ ds x stands. (refl, ready)) (λ ds x stands. moves scanner.Idle phase ds)
  answers (Only set) memory (Part m) is ready phase goes = came w _ _ _ (λ e. cc) (λ _ _ _ _ _ _. (refl, tt)) refl
      (λ ds x up. (let f = goes ds x up in (
        _,
        (set, f.0, f.1, IsAnswer-as f.2 _ (is ∙ entries x.history set.bits memory f.2.p f.2.is), refl),
        f.4,
      ))) (λ ds x stands. (refl, ready)) (λ ds x stands. moves scanner.Idle phase ds)
  answers All memory reply is ready phase goes = absurd is
  answers (Only set) memory reply is ready phase goes = absurd is

-- each segment of an answer's set exists
pub seen_within : (n : ℕ) (h : List Update) (scan : ScanState) (memory : List (List ℕ)) (asked : Asked)
    → IsAnswer (set_of n asked) h scan (IsSeen (set_of n asked) h memory) → (set : SegmentSet) → asked ≡ Only set
    → (place i : ℕ) → IsAt set.bits place i → i < length memory
seen_within n h scan memory asked a set e place i at = slice_get_within memory i (value_at h a.p i) (search rules)

-- the registers and the collector represent a state and a scan, which has a look to make
abbrev LooksNext : List Register → Collector → Type 0
LooksNext rs c = (n set : ℕ) × (x : State) × (g : ℕ) × (s : ScanState) × (g ≤ s.start)
    × RegistersStand n x g rs × Gathers n set x.history s c × IsUnderWay c

can_look : (rs : List Register) (c : Collector) → ∥ LooksNext rs c ∥₁ → IsUnderWay c × MayLook rs c
can_look rs c is = (look_from c.scan.next (∥∥₁_map is (λ q. q.8)), ∥∥₁_map is (λ q. (search rules)))

-- after a look the scan has a further one to make, and its owner stays in phase p, or it has its
-- answer, and the owner is in phase r
abbrev pub Ends : {P : Type 0} → Collector → P → P → P → Type 0
Ends c p r q = (IsUnderWay c × (q ≡ p)) ⊎ ((IsUnderWay c → ⊥) × (q ≡ r))

-- what holds in either phase holds in the one that the owner is in
ends_in : {P : Type 0} (c : Collector) (p r q : P) (At : P → Type 0) → Ends c p r q → (IsUnderWay c → At p)
    → ((IsUnderWay c → ⊥) → At r) → At q
ends_in c p r q At (inl goes) further last = subst At (sym goes.1) (further goes.0)
ends_in c p r q At (inr done) further last = subst At (sym done.1) (last done.0)

module _ {n set k : ℕ} {x : State} {s t : ScanState} {c : Collector} (look : IsLook set x s k t)
    (gathers : Gathers n set x.history t c) where
  start_is : t.start ≡ s.start
  start_is = ap (λ (z : ScanState). z.start) look.after

  -- the phases that the actors then have
  looks_on : {P Q : Type 0} (phases : P → Q) (p r q : P) (now next : Q) → phases p ≡ now
      → phases r ≡ next → Ends c p r q → LooksOn set (s.told ++ k ∷ []) now next (phases q)
  looks_on phases p r q now next kept moved ends = grind (arith, ends_in, undecided, decided, look.after)

module _ (w : Actors) (i : ℕ) (is : WriterIs (phases_of_actors w) i writer.Scanning) (old : WriterActor)
    (read : old ≡ get_or w.writers.items i old) where
  module _ (x : State) (stands : ActorsStand w x) where
    -- the set of the embedded scan, and the writer's part
    abbrev all : ℕ
    all = all_of w.segments

    at : WriterFound w.segments x.history stands.since i x.writers old writer.Scanning
    at = the_writer w x stands i is old read

  pub writer_can_look : Stand w → IsUnderWay old.collector × MayLook w.registers.items old.collector
  writer_can_look stand = can_look w.registers.items old.collector (∥∥₁_map stand (λ q. (
      let a = at q.0 q.1 in
      let b = a.phase.0 in
      (w.segments, all_of w.segments, q.0, q.1.since, a.state.scan, b.born, q.1.registers, b.gathers, a.phase.1))))

  module _ (k : ℕ) (c : Collector) (look : IsLookOf w.registers.items old.collector k c)
      (q : WriterPhase) (ends : Ends c writer.Scanning writer.Storing q) where
    -- the writer in its phase after the look
    abbrev writer_in : WriterPhase → WriterActor
    writer_in p = record old { phase = p; collector = c }

    module _ (x : State) (stands : ActorsStand w x) where
      told : (t : ScanState) × IsLook (all_of w.segments) x (at x stands).state.scan k t
          × Gathers w.segments (all_of w.segments) x.history t c
      told =
          let a = at x stands in look w.segments (all_of w.segments) x stands.since a.state.scan a.phase.0.born
          stands.registers a.phase.0.gathers

      abbrev next : WriterState
      next = record (at x stands).state { scan = told.0 }

      begun : HasBegun w.segments x.history stands.since i old.value c next
      begun = grind (arith, at, start_is, told)

      stands_on : WriterStands w.segments x.history stands.since i (writer_in q) next
      stands_on = grind (arith, at, answered, told, ends_in, begun)

      -- the device is ready, also for a store of any value
      device_on : (d : Drive) → DriveStands w.segments x.history i writer.Scanning next.pending d
          → DriveStands w.segments x.history i q next.pending d
      device_on d ready = search (rules, store_begins)

    pub writer_looks : IsActorsStep w (Look (actor.Writer i)) (Number k)
        (with_actors_writer w i (record old { phase = q; collector = c }))
    writer_looks = came w _ _ _ (λ e. cc) (λ _ _ _ _ _ _. (refl, tt)) refl (λ ds x up. (
        let stands = up.actors_stand in
        let a = at x stands in
        let t = told x stands in (
          with_writer x i (next x stands),
          (a.state, a.there, t.0, t.1, refl),
          writer_goes w ds x up i (writer_in q) a.state (next x stands) (within w x stands i is)
              a.there refl (stands_on x stands)
              (λ d ed. device_on x stands d (up.drives_stand i d a.state writer.Scanning ed a.there is)),
        ))) (λ ds x stands. (refl, is)) (λ ds x stands s e. (
        let a = at x stands in
        let t = told x stands in
        let p = up_at ds (phases_of_actors w) in
        let next = up_at ds (writer_to (phases_of_actors w) i writer.Storing) in
        let after : WriterPhase → WorldPhases =
        λ z. up_at ds (phases_of_actors (with_actors_writer w i (writer_in z))) in
        subst (λ (z : WriterState). LooksOn (all_of w.segments) (z.scan.told ++ k ∷ []) p next (after q))
        (same_Some a.state s (sym a.there ∙ e)) (looks_on t.1 t.2 after writer.Scanning writer.Storing q p next
        (ap (up_at ds) (writer_kept w i (writer_in writer.Scanning) old read
        (sym (writer_read w i is old read).1))) (ap (up_at ds) (writer_moved w i (writer_in writer.Storing))) ends)))

-- a property of the set and of the numbers read of a scanner's scan, if it has one
abbrev OfScan : ℕ → (ℕ → List ℕ → Type 0) → ScannerState → Type 0
OfScan n P Closed = Unit {0}
OfScan n P (Opened asked s) = P (set_of n asked) s.told

module _ (w : Actors) (i : ℕ) (is : ScannerIs (phases_of_actors w) i scanner.Scanning)
    (old : ScannerActor) (read : old ≡ get_or w.scanners.items i old) where
  -- the set of the scan
  abbrev set : ℕ
  set = set_of w.segments old.asked

  scanner_at : (x : State) (stands : ActorsStand w x)
      → ScannerFound w.segments x.history stands.since i x.scanners old scanner.Scanning
  scanner_at x stands = the_scanner w x stands i is old read

  pub scanner_can_look : Stand w → IsUnderWay old.collector × MayLook w.registers.items old.collector
  scanner_can_look stand = can_look w.registers.items old.collector (∥∥₁_map stand (λ q. (
      let a = (scanner_at q.0 q.1).phase in (w.segments, set, q.0, q.1.since, a.0, a.2, q.1.registers, a.3, a.4))))

  module _ (k : ℕ) (c : Collector) (look : IsLookOf w.registers.items old.collector k c)
      (q : ScannerPhase) (ends : Ends c scanner.Scanning scanner.Ready q) where
    -- the scanner in its phase after the look
    abbrev scanner_in : ScannerPhase → ScannerActor
    scanner_in p = record old { phase = p; collector = c }

    module _ (x : State) (stands : ActorsStand w x) where
      scanner_told : (t : ScanState) × IsLook set x (scanner_at x stands).phase.0 k t
          × Gathers w.segments set x.history t c
      scanner_told =
          let a = (scanner_at x stands).phase in look w.segments set x stands.since a.0 a.2 stands.registers a.3

      scanner_stands_on : ScannerStands w.segments x.history stands.since i (scanner_in q)
          (Opened old.asked scanner_told.0)
      scanner_stands_on =
          let t = scanner_told in
          let born = subst (λ b. stands.since ≤ b) (sym (start_is t.1 t.2)) (scanner_at x stands).phase.2 in
          let answer = answered set x.history t.0 c.memory.items c.scan.next in
          let Stands : ScannerPhase → Type 0 =
          λ p. ScannerStands w.segments x.history stands.since i (scanner_in p) (Opened old.asked t.0) in
          ends_in c scanner.Scanning scanner.Ready q Stands ends
          (λ goes. record { size = t.2.size; phase = (t.0, refl, born, t.2, goes) })
          (λ done. record { size = t.2.size; phase = (t.0, refl, t.2.end, answer (λ j e. done (j, e)) t.2.gathered) })

    pub scanner_looks : IsActorsStep w (Look (actor.Scanner i)) (Number k)
        (with_actors_scanner w i (record old { phase = q; collector = c }))
    scanner_looks = came w _ _ _ (λ e. cc) (λ _ _ _ _ _ _. (refl, tt)) refl (λ ds x up. (
        let stands = up.actors_stand in
        let a = scanner_at x stands in
        let t = scanner_told x stands in (
          with_scanner x i (Opened old.asked t.0),
          (old.asked, a.phase.0, a.there ∙ ap (λ z. Some z) a.phase.1, t.0, t.1, refl),
          scanner_goes w ds x up i (scanner_in q) (Opened old.asked t.0) (scanner_there w i is)
              (scanner_stands_on x stands),
        ))) (λ ds x stands. (refl, is)) (λ ds x stands asked s e. (
        let a = scanner_at x stands in
        let t = scanner_told x stands in
        let p = up_at ds (phases_of_actors w) in
        let next = up_at ds (scanner_to (phases_of_actors w) i scanner.Ready) in
        let after : ScannerPhase → WorldPhases =
        λ z. up_at ds (phases_of_actors (with_actors_scanner w i (scanner_in z))) in
        subst (OfScan w.segments (λ m told. LooksOn m (told ++ k ∷ []) p next (after q))) (sym a.phase.1
        ∙ same_Some a.state (Opened asked s) (sym a.there ∙ e)) (looks_on t.1 t.2 after scanner.Scanning scanner.Ready q
        p next (ap (up_at ds) (scanner_kept w i (scanner_in scanner.Scanning) old read
        (sym (scanner_read w i is old read).1))) (ap (up_at ds) (scanner_moved w i (scanner_in scanner.Ready))) ends)))
