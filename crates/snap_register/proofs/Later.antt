-- What a seat keeps through its looks.
use Rattle.std.proofs.Common.{◌≡◌, ◌≢◌, ℕ, ◌+◌, ◌-◌, ◌<◌, ◌≤◌, List, [], ◌∷◌, ◌++◌, length, get_or, set, refl, ap}
use Rattle.std.proofs.Common.{◌∙◌, arith, get_or-set_same, get_or-set_other, le_refl, append_assoc}
use Rattle.std.proofs.lemmas.List.{length-set}
use Rattle.atomic_table.specs.Table.{Me}
use Rattle.snap_register.specs.History.{look_record, count}
use Rattle.snap_register.specs.Rule.{segments, buffers, size, IsLegal, Publishes}
use Rattle.snap_register.proofs.Lines.{count_prefix, count-append, count_push_same}
use Rattle.snap_register.specs.{declared.access.Access.Access, declared.plan.Entry.Entry, declared.plan.Plan.Plan}
use Rattle.snap_register.specs.{declared.plan.BufferPool.BufferPool, declared.plan.SeatView.SeatView}
use Rattle.snap_register.specs.{declared.plan.LookRecord.LookRecord}
use Rattle.snap_register.specs.declared.plan.UpdatePhase.{UpdatePhase}
use Rattle.snap_register.specs.{Setup.IsSized, Setup.IsSeated, Held.Readable, Steps.view_of}
use Rattle.snap_register.proofs.Views.{all_readable}
use mathlib.Core.List.{IsPrefix}

-- if y has a property at j, and the other entries have it, then all have it after y is set at j
pub set_each : (P : ℕ → ℕ → Type 0) (l : List ℕ) (j y : ℕ) → j < length l → P j y
    → ((i : ℕ) → i ≢ j → P i (get_or l i 0)) → (i : ℕ) → P i (get_or (set l j y) i 0)
set_each P l j y inside here others i = grind (arith, get_or-set_same, get_or-set_other)

-- a seat at rest in which only these have changed
abbrev pub changed : {S : Type 0} → Me S SeatView → List Entry → ℕ → List ℕ → List ℕ → List LookRecord → BufferPool
    → Me S SeatView
changed m seen left pins records look_records pool = (
  record m.0 {
    seen = seen;
    received = [];
    seen_end = m.0.high;
    left = left;
    pins = pins;
    records = records;
    look_records = look_records;
    pool = pool;
  },
  m.1,
)

module _ {S : Type 0} {words left : ℕ} {pins : List ℕ} {m : Me S SeatView}
    (seated : IsSeated words pins left m) where
  -- between two calls it has seen all that it received
  pub settled : m ≡ (record m.0 { received = []; seen_end = m.0.high }, m.1)
  settled = grind arith

  -- only the pins, the records, the looks, the pool and what was seen have changed
  seated_with : {words' left' l : ℕ} {pins' : List ℕ} {m' : Me S SeatView} (seen : List Entry)
      (ps ms : List ℕ) (ss : List LookRecord) (d : BufferPool) → words' ≡ words → left' ≡ l
      → m' ≡ changed m seen l ps ms ss d → length ps ≡ length m.0.pins → length ms ≡ length m.0.records
      → ((i : ℕ) → i < segments m.0.plan → get_or pins' i 0 ≡ get_or ps i 0)
      → ((i : ℕ) → i < segments m.0.plan → get_or ps i 0 ≤ buffers m.0.plan)
      → ((i : ℕ) → i < segments m.0.plan → get_or ms i 0 ≤ count i seen)
      → ((i : ℕ) → i < segments m.0.plan → Readable m.0.plan seen i (get_or ms i 0)) → IsSeated words' pins' left' m'
  seated_with seen ps ms ss d same lefts is wide_ps wide_ms pins_are inside records read =
      rw is (search (arith, seated))

  -- the pin on register j becomes x
  seated_set : {words' left' l : ℕ} {m' : Me S SeatView} (j x : ℕ) (seen : List Entry) (ms : List ℕ)
      (ss : List LookRecord) → j < segments m.0.plan → j < length pins → x ≤ buffers m.0.plan → words' ≡ words
      → left' ≡ l → m' ≡ changed m seen l (set m.0.pins j x) ms ss m.0.pool → length ms ≡ length m.0.records → ((i : ℕ)
      → i < segments m.0.plan → get_or ms i 0 ≤ count i seen) → ((i : ℕ) → i < segments m.0.plan
      → Readable m.0.plan seen i (get_or ms i 0)) → IsSeated words' (set pins j x) left' m'
  seated_set j x seen ms ss lj wide few same lefts is wide_ms =
      grind (arith, seated_with, length-set, set_each, get_or-set_same, get_or-set_other)

  -- after a look at j the records are among what was seen
  looked_records : (j : ℕ) (h : List Entry) → j < segments m.0.plan → IsPrefix m.0.seen h → (i : ℕ)
      → i < segments m.0.plan → get_or (set m.0.records j (count j h)) i 0 ≤ count i h
  looked_records j h lj later =
      set_each (λ i y. i < segments m.0.plan → y ≤ count i h) m.0.records j (count j h)
      (let a = seated.wide_records in omega arith) (λ _. le_refl (count j h))
      (λ i ne li. omega (arith, count_prefix i m.0.seen h later, seated.records_are i li))

  pub seated_revisited : {n s block_words whole words' left' : ℕ} {m' : Me S SeatView} (j : ℕ)
      → IsSized n s block_words whole m.0.plan → j < segments m.0.plan → words' ≡ words → left' + 1 ≡ left
      → IsPrefix m.0.seen m'.0.seen → IsLegal m.0.plan m'.0.seen
      → m' ≡ changed m m'.0.seen (m.0.left - 1) m.0.pins (set m.0.records j (count j m'.0.seen))
      (m.0.look_records ++ look_record m'.0.seen ∷ []) m.0.pool → IsSeated words' pins left' m'
  seated_revisited {m' = m'} j sized lj same less later legal is =
      let h : List Entry = m'.0.seen in
      let ms : List ℕ = set m.0.records j (count j h) in
      let old = looked_records j h lj later in
      seated_with h m.0.pins ms (m.0.look_records ++ look_record h ∷ []) m.0.pool same (omega (arith, seated.left_is))
      is refl (length-set m.0.records j (count j h)) seated.pins_are seated.pins_inside old
      (all_readable ms sized legal old)

  pub seated_pinned : {n s block_words whole words' left' : ℕ} {m' : Me S SeatView} (j x : ℕ)
      → IsSized n s block_words whole m.0.plan → j < segments m.0.plan → j < length pins
      → x < buffers m.0.plan → words' ≡ words → left' + 1 ≡ left → IsPrefix m.0.seen m'.0.seen
      → IsLegal m.0.plan m'.0.seen → m' ≡ changed m m'.0.seen (m.0.left - 1) (set m.0.pins j (x + 1))
      (set m.0.records j (count j m'.0.seen)) (m.0.look_records ++ look_record m'.0.seen ∷ []) m.0.pool
      → IsSeated words' (set pins j (x + 1)) left' m'
  seated_pinned {m' = m'} j x sized lj wide few same less later legal is =
      let h : List Entry = m'.0.seen in
      let ms : List ℕ = set m.0.records j (count j h) in
      let old = looked_records j h lj later in
      seated_set j (x + 1) h ms (m.0.look_records ++ look_record h ∷ []) lj wide (omega arith) same
      (omega (arith, seated.left_is)) is (length-set m.0.records j (count j h)) old (all_readable ms sized legal old)

  pub seated_bare : {words' : ℕ} {m' : Me S SeatView} (j : ℕ) → j < segments m.0.plan → j < length pins → words' ≡ words
      → m' ≡ (record m.0 { pins = set m.0.pins j 0 }, m.1) → IsSeated words' (set pins j 0) left m'
  seated_bare j lj wide same is =
      seated_set j 0 m.0.seen m.0.records m.0.look_records lj wide (omega arith) same seated.left_is
      (is ∙ ap (λ (n : Me S SeatView). (record n.0 { pins = set m.0.pins j 0 }, n.1)) settled) refl
      seated.records_are seated.readable

  -- only the phase has changed
  pub seated_phase : {words' : ℕ} {m' : Me S SeatView} (f : UpdatePhase) → words' ≡ words
      → m' ≡ (record m.0 { phase = f }, m.1) → IsSeated words' pins left m'
  seated_phase f same is = rw is (search (arith, seated))

  -- only the pool has changed
  pub seated_pool : {words' : ℕ} {m' : Me S SeatView} (d : BufferPool) → words' ≡ words
      → m' ≡ (record m.0 { pool = d }, m.1) → IsSeated words' pins left m'
  seated_pool d same is = grind (arith, seated_with, settled)

  -- only the pool and what was seen have changed
  pub seated_shown : {n s block_words whole words' : ℕ} {m' : Me S SeatView} (d : BufferPool) (seen : List Entry)
      → IsSized n s block_words whole m.0.plan → words' ≡ words → m' ≡ (record m.0 { seen = seen; pool = d }, m.1)
      → IsPrefix m.0.seen seen → IsLegal m.0.plan seen → IsSeated words' pins left m'
  seated_shown d seen sized same is later legal =
      let old : (i : ℕ) → i < segments m.0.plan → get_or m.0.records i 0 ≤ count i seen =
      λ i li. omega (arith, count_prefix i m.0.seen seen later, seated.records_are i li) in
      seated_with seen m.0.pins m.0.records m.0.look_records d same seated.left_is
      (is ∙ ap (λ (n : Me S SeatView). (record n.0 { seen = seen; pool = d }, n.1)) settled) refl
      refl
      seated.pins_are seated.pins_inside old (all_readable m.0.records sized legal old)

-- the sizes are still those of the plan
pub sized_still : (a : Access) {p : Plan} → p ≡ (view_of a).plan → IsSized a.segments a.scanners a.block_words a.words p
sized_still a e = rw e a.sized

pub publishes_later : (v w : SeatView) (i x : ℕ) → Publishes v w i x → IsPrefix v.seen w.seen
publishes_later v w i x s = grind (arith, append_assoc)

pub publishes_count : (v w : SeatView) (i x : ℕ) → Publishes v w i x → count i w.seen ≡ count i v.seen + 1
publishes_count v w i x s = grind (arith, count_push_same, count-append)

pub some_words : {n s block_words whole words : ℕ} {p : Plan} → IsSized n s block_words whole p
    → words ≡ size p → 0 < words
some_words sized is = omega (arith, sized.some, sized.segments_are, is)
