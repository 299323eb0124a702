-- The parts of a world that stay when one writer, one scanner or the history changes.
-- a scan that has read no number
use Rattle.std.proofs.Common.{rules, ◌≡◌, ◌≢◌, ℕ, ◌+◌, ◌^◌, ◌<◌, ◌≤◌, List, [], ◌∷◌, ◌++◌, length, take, get_or, Option}
use Rattle.std.proofs.Common.{Some, slice_get, refl, ap, sym, ◌∙◌, subst, arith}
use Rattle.snap_history.proofs.Moments.{number-push, number-push_other, value-push, value-push_other, take-push}
use Rattle.snap_history.proofs.Moments.{number-le}
use Rattle.snap_history.proofs.Pairs.{partner, Pairs-set, Pairs-right, Pairs-map}
use Rattle.snap_history.specs.History.{Update, from_nothing, number_after, value_after, IsMemory}
use Rattle.snap_world.specs.inside.Stands.{HasBegun, WriterStands, ScannerStands, ActorsStand, IsAtPhase, IsScannerAt}
use Rattle.snap_world.specs.inside.Stands.{is_fenced}
use Rattle.snap_world.specs.inside.Gathers.{Gathers, Gathered, IsSeen, IsUnderWay, RegisterStands, IsView, ViewStands}
use Rattle.snap_world.specs.inside.Gathers.{RegistersStand}
use Rattle.snap_world.specs.Machine.{State, WriterState, ScannerState, with_writer, with_scanner, with_update}
use Rattle.snap_world.specs.Answers.{ScanState, scan_from, IsAnswer, number_at, value_at, all_of, set_of}
use Rattle.snap_world.proofs.PhaseMoves.{writer_there, writer_read, scanner_read, with_actors_writer}
use Rattle.snap_world.proofs.PhaseMoves.{with_actors_scanner}
use Rattle.snap_scan.proofs.Collects.{Collects-none, Collects-same, IsMoment-same}
use Rattle.snap_scan.specs.declared.next.Next.TheVariants.{Look, Clean, Borrow}
use Rattle.std.proofs.{lemmas.Option.slice_get_read, lemmas.Option.same_Some, lemmas.List.length-set}
use Rattle.std.proofs.{lemmas.List.length_push}
use Rattle.std.specs.{Vec.with_item}
use Rattle.snap_world.specs.{inside.Steps.phases_of_actors, declared.scanner.ScannerPhase.ScannerPhase}
use Rattle.snap_world.specs.{declared.scanner.ScannerActor.ScannerActor, declared.writer.WriterPhase.WriterPhase}
use Rattle.snap_world.specs.{declared.writer.WriterActor.WriterActor, declared.collector.Collector.Collector}
use Rattle.snap_world.specs.{declared.register.Register.Register, declared.actors.Actors.Actors, Phases.WriterIs}
use Rattle.snap_world.specs.{Phases.ScannerIs}
use Rattle.snap_world.proofs.{Looks.number_now, Looks.first_look, Elements.each-set}
use Rattle.snap_scan.proofs.{Sets.all_at}
use Rattle.snap_scan.specs.{declared.next.Next.Next, Course.IsNext, Sets.size}
use Rattle.snap_world.specs.declared.scanner.ScannerPhase.TheVariants as scanner

pub Gathers-none : (n set : ℕ) (h : List Update) (c : Collector) → 0 < size set → set < 2 ^ n → c.scan.set ≡ set
    → c.scan.told ≡ [] → IsNext c.scan.set c.scan.told c.scan.next → length c.memory.items ≡ n
    → Gathers n set h (scan_from (length h)) c × IsUnderWay c
Gathers-none n set h c some among set_is told next long =
    let next_is : IsNext set [] c.scan.next =
    subst (λ L. IsNext set L c.scan.next) told (subst (λ m. IsNext m c.scan.told c.scan.next) set_is next) in
    let first = first_look set c.scan.next some next_is in (search (rules, Collects-none))

-- the part of a writer in phase p, and of a scanner
pub record WriterFound (n : ℕ) (h : List Update) (g i : ℕ) (parts : List WriterState) (a : WriterActor)
    (p : WriterPhase) : Type 0 where
  pub state : WriterState
  pub there : slice_get parts i ≡ Some state
  pub size : length a.collector.memory.items ≡ n
  pub fenced : state.fenced ≡ is_fenced p
  pub phase : IsAtPhase n h g i a state p

pub record ScannerFound (n : ℕ) (h : List Update) (g i : ℕ) (parts : List ScannerState) (a : ScannerActor)
    (p : ScannerPhase) : Type 0 where
  pub state : ScannerState
  pub there : slice_get parts i ≡ Some state
  pub size : length a.collector.memory.items ≡ n
  pub phase : IsScannerAt n h g a state p

module _ (w : Actors) (x : State) (stands : ActorsStand w x) where
  -- a writer that is in a phase is a segment's
  pub within : (i : ℕ) {p : WriterPhase} → WriterIs (phases_of_actors w) i p → i < w.segments
  within i is = search (rules, writer_there)

  -- the writer or the scanner that was read, which is in phase p, with the part that it represents
  pub the_writer : (i : ℕ) {p : WriterPhase} → WriterIs (phases_of_actors w) i p → (a : WriterActor)
      → a ≡ get_or w.writers.items i a → WriterFound w.segments x.history stands.since i x.writers a p
  the_writer i is a read =
      let here = writer_read w i is a read in
      let s = partner (WriterStands w.segments x.history stands.since) w.writers.items x.writers
      i a stands.writers here.0 in search rules

  pub the_scanner : (i : ℕ) {p : ScannerPhase} → ScannerIs (phases_of_actors w) i p → (a : ScannerActor)
      → a ≡ get_or w.scanners.items i a → ScannerFound w.segments x.history stands.since i x.scanners a p
  the_scanner i is a read =
      let here = scanner_read w i is a read in
      let s = partner (ScannerStands w.segments x.history stands.since) w.scanners.items x.scanners
      i a stands.scanners here.0 in search rules

  -- the register of segment i
  pub the_register : (i : ℕ) (r : Register) → i < w.segments → r ≡ get_or w.registers.items i r
      → RegisterStands w.segments x.history i r
  the_register i r l e = stands.registers.each i r (slice_get_read w.registers.items w.segments i r (search rules) l e)

  -- a writer whose view stayed
  pub writer_moves : (i : ℕ) (a : WriterActor) (old s : WriterState) → i < w.segments → slice_get x.writers i ≡ Some old
      → s.view ≡ old.view → WriterStands w.segments x.history stands.since i a s
      → ActorsStand (with_actors_writer w i a) (with_writer x i s)
  writer_moves i a old s l there same here =
      let regs = stands.registers in
      let now : RegistersStand w.segments (with_writer x i s) stands.since w.registers.items = record {
        size = regs.size;
        each = regs.each;
        views = Pairs-right (λ j r (z : WriterState). ViewStands w.segments x.history stands.since j r z.view)
            w.registers.items x.writers i s (omega (arith, stands.writers_n, stands.writers.size)) (λ r er. subst
            (ViewStands w.segments x.history stands.since i r) (sym same) (regs.views.each i r old er there))
            regs.views;
      } in search (rules, Pairs-set, now)

  pub scanner_moves : (i : ℕ) (a : ScannerActor) (s : ScannerState) → i < length w.scanners.items
      → ScannerStands w.segments
      x.history stands.since i a s → ActorsStand (with_actors_scanner w i a) (with_scanner x i s)
  scanner_moves i a s l here = search (rules, Pairs-set)

later : (h : List Update) (u : Update) (e : ℕ) → e ≤ length h → e ≤ length (h ++ u ∷ [])
later h u e l = omega (arith, length_push h u)

-- the history grows by one update of segment u.segment
module _ (h : List Update) (u : Update) where
  numbers_stay : (e : ℕ) → e ≤ length h → (t i : ℕ) → t ≤ e → number_at (h ++ u ∷ []) t i ≡ number_at h t i
  numbers_stay e end t i l = ap (λ g. number_after from_nothing g i) (take-push h u t (omega arith))

  values_stay : (e : ℕ) → e ≤ length h → (t i : ℕ) → t ≤ e → value_at (h ++ u ∷ []) t i ≡ value_at h t i
  values_stay e end t i l = ap (λ g. value_after from_nothing g i) (take-push h u t (omega arith))

  module _ (set : ℕ) (s : ScanState) (end : s.last ≤ length h) where
    IsAnswer-grow : (memory : List (List ℕ)) → IsAnswer set h s (IsSeen set h memory)
        → IsAnswer set (h ++ u ∷ []) s (IsSeen set (h ++ u ∷ []) memory)
    IsAnswer-grow memory a = search (rules, IsMoment-same, numbers_stay, values_stay)

    Gathered-grow : (memory : List (List ℕ)) (v : Next) → Gathered set h s memory v
        → Gathered set (h ++ u ∷ []) s memory v
    Gathered-grow memory (Look j) g = search (rules, Collects-same, numbers_stay, values_stay)
    Gathered-grow memory Clean g = IsAnswer-grow memory g
    Gathered-grow memory (Borrow j) g = IsAnswer-grow memory g

  module _ (n : ℕ) where
    Gathers-grow : (set : ℕ) (s : ScanState) (c : Collector) → Gathers n set h s c → Gathers n set (h ++ u ∷ []) s c
    Gathers-grow set s c g = search (rules, later, Gathered-grow)

    module _ (since i : ℕ) (w : WriterActor) (s : WriterState) (ne : u.segment ≢ i) where
      HasBegun-grow : HasBegun n h since i w.value w.collector s
          → HasBegun n (h ++ u ∷ []) since i w.value w.collector s
      HasBegun-grow g =
          let same = number-push_other from_nothing h u i ne in
          let own = numbers_stay s.scan.last g.gathers.end s.scan.start i g.gathers.start in
          search (rules, same, own, Gathers-grow)

      phase-grow : (p : WriterPhase) → IsAtPhase n h since i w s p → IsAtPhase n (h ++ u ∷ []) since i w s p
      phase-grow p g = search (rules, HasBegun-grow, IsAnswer-grow)

      WriterStands-grow : WriterStands n h since i w s → WriterStands n (h ++ u ∷ []) since i w s
      WriterStands-grow g = record { size = g.size; fenced = g.fenced; phase = phase-grow w.phase g.phase }

    module _ (since i : ℕ) (c : ScannerActor) (s : ScannerState) where
      scanner_phase-grow : (p : ScannerPhase) → IsScannerAt n h since c s p → IsScannerAt n (h ++ u ∷ []) since c s p
      scanner_phase-grow scanner.Idle g = g
      scanner_phase-grow scanner.Scanning g = (g.0, g.1, g.2, Gathers-grow (set_of n c.asked) g.0 c.collector g.3, g.4)
      scanner_phase-grow scanner.Ready g = search (rules, later, IsAnswer-grow)

      ScannerStands-grow : ScannerStands n h since i c s → ScannerStands n (h ++ u ∷ []) since i c s
      ScannerStands-grow g = record { size = g.size; phase = scanner_phase-grow c.phase g.phase }

    module _ (i : ℕ) (r : Register) where
      RegisterStands-grow : u.segment ≢ i → RegisterStands n h i r → RegisterStands n (h ++ u ∷ []) i r
      RegisterStands-grow ne g = search (rules, number-push_other, value-push_other)

      IsView-grow : (p : ℕ) → IsView n h i r p → IsView n (h ++ u ∷ []) i r p
      IsView-grow p v = search (rules, later, numbers_stay, take-push)

      ViewStands-grow : (since : ℕ) (view : Option ℕ) → since ≤ length h
          → ViewStands n h since i r view → ViewStands n (h ++ u ∷ []) since i r view
      ViewStands-grow since view old g = record {
        kept = λ above. (let base : number_at (h ++ u ∷ []) since i ≡ number_at h since i =
            numbers_stay since old since i (omega arith) in g.kept (omega arith));
        is_view = λ p e. IsView-grow p (g.is_view p e);
      }

      -- a writer shows its update with the view of its scan's moment
      pub shown_view : (since : ℕ) (s : WriterState) (p : ℕ) → s.view ≡ Some p → IsView n h i r p
          → ViewStands n (h ++ u ∷ []) since i r s.view
      shown_view since s p is view = record {
        kept = λ above. (p, is);
        is_view = λ q e. subst (IsView n (h ++ u ∷ []) i r) (same_Some p q (sym is ∙ e)) (IsView-grow p view);
      }

-- its register has the next number and its value
pub shown_register : (n : ℕ) (h : List Update) (u : Update) (r : Register) → r.number ≡ number_after from_nothing h
    u.segment + 1 → r.value ≡ u.value → length r.view.items ≡ n → RegisterStands n (h ++ u ∷ []) u.segment r
shown_register n h u r number value size = search (rules, number-push, value-push)

module _ (w : Actors) (x : State) (stands : ActorsStand w x) (i : ℕ) (v : List ℕ) where
  -- the update, and the history with it
  abbrev pub the_update : Update
  the_update = record { segment = i; value = v }

  abbrev pub grown : List Update
  grown = x.history ++ record { segment = i; value = v } ∷ []

  pub world_shows : (r : Register) (a : WriterActor) (s : WriterState) → i < w.segments
      → RegisterStands w.segments grown i r
      → ViewStands w.segments grown stands.since i r s.view → WriterStands w.segments grown stands.since i a s
      → ActorsStand (record w {
        registers = with_item w.registers i r;
        writers = with_item w.writers i a;
      }) (with_update x i v s)
  world_shows r a s l here_r here_v here_a =
      let View : List Update → ℕ → Register → WriterState → Type 0 =
      λ h j c d. ViewStands w.segments h stands.since j c d.view in record {
        least = stands.least;
        most = stands.most;
        since = stands.since;
        within = later x.history the_update stands.since stands.within;
        registers = record {
          size = length-set w.registers.items i r ∙ stands.registers.size;
          each = each-set (RegisterStands w.segments grown) w.registers.items i r here_r (λ j c ne e.
              RegisterStands-grow x.history the_update w.segments j c (λ f. ne (sym f)) (stands.registers.each j c e));
          views = Pairs-set (View x.history) (View grown) w.registers.items x.writers i r s
              (omega (arith, stands.registers.size)) (λ j c d ne. ViewStands-grow x.history the_update w.segments j c
              stands.since d.view stands.within) here_v stands.registers.views;
        };
        writers_n = length-set w.writers.items i a ∙ stands.writers_n;
        writers = Pairs-set (WriterStands w.segments x.history stands.since) (WriterStands w.segments grown
            stands.since) w.writers.items x.writers i a s (omega (arith, stands.writers_n)) (λ j c d ne.
            WriterStands-grow x.history the_update w.segments stands.since j c d (λ f. ne (sym f)))
            here_a stands.writers;
        scanners = search (rules, Pairs-map, ScannerStands-grow);
      }

-- a scan whose machine has no look to make has its answer
pub answered : (set : ℕ) (h : List Update) (s : ScanState) (memory : List (List ℕ)) (v : Next)
    → ((j : ℕ) → v ≡ Look j → ⊥) → Gathered set h s memory v → IsAnswer set h s (IsSeen set h memory)
answered set h s memory (Look j) done g = absurd (done j refl)
answered set h s memory Clean done g = g
answered set h s memory (Borrow j) done g = g

-- what was seen of all segments is the memory
pub whole : (n : ℕ) (h : List Update) (memory : List (List ℕ)) (p : ℕ) → n ≤ 16
    → length memory ≡ n → IsSeen (all_of n) h memory p → IsMemory n from_nothing (take p h) memory
whole n h memory p most long seen = record { size = long; values = λ i l. seen i i (all_at n most i l) }

-- the moment of the answer is after the writer's update before, and the writer has had no update since
pub own_moment : (n : ℕ) (h : List Update) (since i : ℕ) (a : WriterActor) (s : WriterState)
    (begun : HasBegun n h since i a.value a.collector s) (p : ℕ) → s.scan.start ≤ p → p ≤ s.scan.last
    → number_at h p i ≡ number_after from_nothing h i
own_moment n h since i a s begun p lo hi =
    let end : s.scan.last ≤ length h = begun.gathers.end in omega (
      arith,
      number-le from_nothing h i s.scan.start p lo,
      number-le from_nothing h i p (length h) (omega arith),
      number_now h i,
      begun.own,
    )
