-- Each step keeps the rule.
use Rattle.std.proofs.Common.{◌≡◌, ◌≢◌, ℕ, ◌+◌, ◌-◌, ◌/◌, ◌%◌, ◌^◌, ◌<◌, ◌≤◌, ◌==◌, List, [], ◌∷◌, ◌++◌, length}
use Rattle.std.proofs.Common.{get_or, set, false, refl, ap, sym, subst, ◌∙◌, arith, get_or-set_same, get_or-set_other}
use Rattle.std.proofs.Common.{le_refl, cond}
use Rattle.std.proofs.lemmas.{List.set-get_or, List.length-set, Nat.div-mul-add, Bool.Decides.nat_tests}
use Rattle.atomic_table.specs.Table.{State, Me, step, stepped, Allows}
use Rattle.atomic_table.{specs.Table.Act.keeps, proofs.Lists.at_set}
use Rattle.snap_register.specs.History.{entry, look_record, only, count, start_at, record_words}
use Rattle.snap_register.specs.Rule.{segments, buffers, width, given, cell, Has, IsLegal, total, on, far}
use Rattle.snap_register.specs.Rule.{beyond, other, Holds, Register, Pinned, Knows, Kept, Learns, pinning, giving}
use Rattle.snap_register.specs.Rule.{caught_up, read, revisited, HoldsRecords}
use Rattle.snap_register.proofs.Lines.{prefix_self, prefix_trans, count_prefix, record_prefix, legal_prefix}
use Rattle.snap_register.proofs.Places.{Apart, word_apart, given_apart, given_same, given_behind, cell_behind}
use Rattle.snap_register.proofs.Places.{given_cell, given_inside}
use Rattle.snap_register.proofs.Sums.{total_set, total_same, total_one, far_none, pins_at}
use Rattle.snap_register.specs.declared.plan.{Entry.Entry, Plan.Plan, BufferPool.BufferPool, SeatView.SeatView}
use Rattle.snap_register.specs.declared.plan.UpdatePhase.{UpdatePhase}
use mathlib.Core.List.{IsPrefix}
use mathlib.Core.Logic.{dite}
use mathlib.Core.Option as maybe
use mathlib.Core.Option.{some}
use native.Mathlib.Decide.{ℕ_discrete}
use lib.ListN.{get_elem?}

-- f with y at j
abbrev pub turn : {A : Type 0} → (ℕ → A) → ℕ → A → ℕ → A
turn f j y i = cond (i == j) y (f i)

pub turn_here : {A : Type 0} (f : ℕ → A) (j : ℕ) (y : A) (i : ℕ) → i ≡ j → turn f j y i ≡ y
turn_here f j y i e = grind (arith, nat_tests)

pub turn_else : {A : Type 0} (f : ℕ → A) (j : ℕ) (y : A) (i : ℕ) → i ≢ j → turn f j y i ≡ f i
turn_else f j y i e = grind (arith, nat_tests)

-- the words of register i stay
pub record SameWords (p : Plan) (ws ws' : List ℕ) (i : ℕ) : Type 0 where
  pub word : get_or ws' i 0 ≡ get_or ws i 0
  pub givens : (b : ℕ) → b < buffers p → get_or ws' (given p i b) 0 ≡ get_or ws (given p i b) 0
  pub cells : (b q : ℕ) → b < buffers p → q < width p → get_or ws' (cell p i b q) 0 ≡ get_or ws (cell p i b q) 0

pub words_same : (p : Plan) (ws : List ℕ) (i : ℕ) → SameWords p ws ws i
words_same p ws i = record { word = refl; givens = λ b lb. refl; cells = λ b q lb lq. refl }

-- another word was stored
pub words_beside : {p : Plan} (ws : List ℕ) (c y i : ℕ) → Apart p i c → SameWords p ws (set ws c y) i
words_beside ws c y i apart = record {
  word = get_or-set_other ws c i y 0 apart.word;
  givens = λ b lb. get_or-set_other ws c _ y 0 (apart.givens b lb);
  cells = λ b q lb lq. get_or-set_other ws c _ y 0 (apart.cells b q lb lq);
}

-- the sum of f over the views' pins on register i
abbrev pub over_pins : (ℕ → ℕ) → ℕ → List SeatView → ℕ
over_pins f i vs = total (λ v. f (get_or v.pins i 0)) vs

-- a register whose words and pins don't change
pub register_stays : {p : Plan} {h h' : List Entry} {ws ws' : List ℕ} {vs vs' : List SeatView}
    {i : ℕ} {d : BufferPool} {x : ℕ} → SameWords p ws ws' i → ((f : ℕ → ℕ) → f 0 ≡ 0
    → over_pins f i vs' ≡ over_pins f i vs)
    → total (λ v. v.left) vs' ≤ total (λ v. v.left) vs → only i h' ≡ only i h
    → Register p h ws vs i d x → Register p h' ws' vs' i d x
register_stays {p} {h} {h'} {ws} {ws'} {vs} {vs'} {i} {d} {x} words pins lefts line r =
    let ons : (b : ℕ) → total (on i b) vs' ≡ total (on i b) vs =
    λ b. pins (λ z. cond (z == b + 1) 1 0) (grind (arith, nat_tests)) in
    let few = other d.current d.found_pinned in
    let beyonds : total (beyond i few d.current) vs' ≡ total (beyond i few d.current) vs =
    pins (far few d.current) (far_none few d.current 0 (omega arith)) in
    let latest = subst (λ (l : List Entry). Holds p ws' i d.current
    (get_or (entry i (start_at p i).words ∷ l) (length l) (entry i [])).words) (sym line)
    (λ q lq lw. words.cells d.current q r.current lq ∙ r.latest q lq lw) in
    let same : (n : ℕ) → record_words p h i n ≡ record_words p h' i n =
    λ n. ap (λ (l : List Entry). (get_or (entry i (start_at p i).words ∷ l) n (entry i [])).words) (sym line) in
    let records : HoldsRecords p h' ws' i d = λ b q lb lq some behind lw. let e = same (get_or d.records b 0) in
    words.cells b q lb lq ∙ (r.records b q lb lq some behind (rw (← e) at lw) ∙ ap (λ (l : List ℕ). get_or l q 0) e) in
    grind (arith, ap length line)

-- a register whose words don't change, when one view changes but not its pin there
pub register_beside : {p : Plan} {h h' : List Entry} {ws ws' : List ℕ} {vs : List SeatView} {i : ℕ}
    {d : BufferPool} {x : ℕ} (id : ℕ) (v w : SeatView) → get_elem? vs id ≡ some v
    → get_or v.pins i 0 ≡ get_or w.pins i 0 → w.left ≤ v.left → SameWords p ws ws' i
    → only i h' ≡ only i h → Register p h ws vs i d x → Register p h' ws' (set vs id w) i d x
register_beside {vs = vs} {i = i} id v w at pin left words line =
    register_stays words (λ f _. total_same (λ u. f (get_or u.pins i 0)) vs id v w at (ap f pin))
    (omega (arith, total_set (λ u. u.left) vs id v w at)) line

pub pinned_stays : {p : Plan} {h h' : List Entry} {ws ws' : List ℕ} {i b r : ℕ} → IsPrefix h h' → ((q : ℕ) → q < width p
    → get_or ws' (cell p i b q) 0 ≡ get_or ws (cell p i b q) 0) → Pinned p h ws i b r → Pinned p h' ws' i b r
pinned_stays {p} {h} {h'} {ws} {ws'} {i} {b} {r} pre cells k =
    grind (arith, nat_tests, count_prefix, record_prefix, cells)

-- what a seat knows stays true while the buffers that it pins and what it writes stay
pub knows_stays : {p : Plan} {h h' : List Entry} {ws ws' : List ℕ} {writer writer' : ℕ → ℕ} {pools pools' : ℕ
    → BufferPool} {j : ℕ} {v : SeatView} → IsPrefix h h' → ((i b q : ℕ) → i < segments p → b < buffers p
    → get_or v.pins i 0 ≡ b + 1 → q < width p → get_or ws' (cell p i b q) 0 ≡ get_or ws (cell p i b q) 0) → ((i : ℕ)
    → Has v i → (writer' i ≡ writer i) × (pools' i ≡ pools i) × (only i h' ≡ only i h)) → Knows p h ws writer pools j v
    → Knows p h' ws' writer' pools' j v
knows_stays {p} {h} {h'} {v = v} later cells own t = record {
  plan = t.plan;
  seen = prefix_trans v.seen h h' t.seen later;
  received = prefix_trans v.received h h' t.received later;
  role = λ i has. grind (arith, t.role i has, own i has);
  pins = λ i b li pin. let y = t.pins i b li pin in
      pinned_stays later (λ q lq. cells i b q li y.inside pin lq) y;
  pin_quota = t.pin_quota;
}

module _ (S : Type 0) where
  abbrev St : Type 0
  St = State S SeatView

  abbrev M : Type 0
  M = Me S SeatView

  -- the table after seat id took a step that left these words and this view
  abbrev pub after : St → List ℕ → ℕ → SeatView → St
  after s ws id w = record { words = ws; homes = s.homes; views = set s.views id w }

  pub seats_stay : (K : ℕ → SeatView → Type 0) (vs : List SeatView) (me : ℕ) (w : SeatView) → K me w
      → ((j : ℕ) (v : SeatView) → j ≢ me → get_elem? vs j ≡ some v → K j v)
      → (j : ℕ) (v : SeatView) → get_elem? (set vs me w) j ≡ some v → K j v
  seats_stay K vs me w mine others j v e = grind (arith, nat_tests, at_set)

  -- a step may be taken if it keeps the rule of the seat's own plan, which is the table's
  pub allowed : (p : Plan) (slots id : ℕ) (m : M) (c : ℕ) (f : ℕ → ℕ) (tells : ℕ → M → Type 0) → m.0.spent ≡ false
      → ((s : St) (k : Kept m.0.plan s) → get_elem? s.views id ≡ some m.0
      → (w : SeatView) × Kept m.0.plan (stepped s c (f (get_or s.words c 0)) id m.1 w keeps)
      × tells (get_or s.words c 0) (w, m.1)) → Allows (Kept p) slots id m c f tells
  allowed p slots id m c f tells here go s k _ at _ = grind (arith, nat_tests, keeps)

  -- a load leaves the words unchanged
  pub loaded : {p : Plan} (s : St) (c id : ℕ) (cs : List (ℕ × S)) (w : SeatView)
      → Kept p (after s s.words id w) → Kept p (stepped s c (get_or s.words c 0) id cs w keeps)
  loaded s c id cs w kept = rw (set-get_or s.words c 0) kept

  module _ {p : Plan} {s : St} (k : Kept p s) (id : ℕ) {v : SeatView} (w : SeatView)
      (at : get_elem? s.views id ≡ some v) (pin_quota : w.pin_quota ≡ v.pin_quota) where
    -- the rule after seat id has taken a step that left this
    kept_after : (ws : List ℕ) (h : List Entry) (pools : ℕ → BufferPool) (pinned : ℕ → ℕ) → length ws ≡ length s.words
        → IsLegal p h → ((i : ℕ) → i < segments p → Register p h ws (set s.views id w) i (pools i) (pinned i))
        → Knows p h ws k.writer pools id w → ((j : ℕ) (u : SeatView) → j ≢ id → get_elem? s.views j ≡ some u
        → Knows p h ws k.writer pools j u) → Kept p (after s ws id w)
    kept_after ws h pools pinned wide legal registers mine theirs = record {
      history = h;
      writer = k.writer;
      pools = pools;
      pinned = pinned;
      wide = wide ∙ k.wide;
      shares = omega (arith, total_same (λ u. u.pin_quota) s.views id v w at (sym pin_quota));
      few = k.few;
      legal = legal;
      registers = registers;
      each_seat = seats_stay (Knows p h ws k.writer pools) s.views id w mine theirs;
    }

    -- a step on register i, whose current word then counts x pins
    pub step_keeps : (i : ℕ) (ws : List ℕ) (h : List Entry) (pools : ℕ → BufferPool) (x : ℕ) → w.left ≤ v.left
        → length ws ≡ length s.words → IsLegal p h → ((a : ℕ) → a ≢ i → pools a ≡ k.pools a) → ((a : ℕ) → a < segments p
        → a ≢ i → SameWords p s.words ws a) → ((a : ℕ) → a ≢ i → get_or v.pins a 0 ≡ get_or w.pins a 0) → ((a : ℕ)
        → a ≢ i → only a h ≡ only a k.history) → Register p h ws (set s.views id w) i (pools i) x
        → Knows p h ws k.writer pools id w → ((j : ℕ) (u : SeatView) → j ≢ id → get_elem? s.views j ≡ some u
        → Knows p h ws k.writer pools j u) → Kept p (after s ws id w)
    step_keeps i ws h pools x left wide legal others words pins lines own =
        kept_after ws h pools (turn k.pinned i x) wide legal (λ a la. dite (ℕ_discrete a i)
        (λ e. rw (turn_here k.pinned i x a e, e) own) (λ ne. rw (turn_else k.pinned i x a ne, others a ne)
        (register_beside id v w at (pins a ne) left (words a la ne) (lines a ne) (k.registers a la))))

    -- a step on register j that changes no buffer, no pool and not the history
    pin_step : (j c y x : ℕ) → w.left ≤ v.left → ((a : ℕ) → a < segments p → a ≢ j → Apart p a c) → ((a b q : ℕ)
        → cell p a b q ≢ c) → ((a : ℕ) → a ≢ j → get_or v.pins a 0 ≡ get_or w.pins a 0)
        → Register p k.history (set s.words c y) (set s.views id w) j (k.pools j) x
        → Knows p k.history (set s.words c y) k.writer k.pools id w → Kept p (after s (set s.words c y) id w)
    pin_step j c y x left apart cells pins own mine =
        step_keeps j (set s.words c y) k.history k.pools x left (length-set s.words c y) k.legal
        (λ a ne. refl) (λ a la ne. words_beside s.words c y a (apart a la ne)) pins (λ a ne. refl) own mine
        (λ i u _ there. knows_stays (prefix_self k.history)
        (λ a b q la lb pin lq. get_or-set_other s.words c (cell p a b q) y 0 (cells a b q))
        (λ a has. (refl, refl, refl)) (k.each_seat i u there))

    -- a load that changes no pin and no pool
    unmoved : (c : ℕ) (cs : List (ℕ × S)) → w.left ≤ v.left → w.pins ≡ v.pins
        → Knows p k.history s.words k.writer k.pools id w → Kept p (stepped s c (get_or s.words c 0) id cs w keeps)
    unmoved c cs left pins mine = loaded s c id cs w (kept_after s.words k.history k.pools k.pinned refl k.legal
        (λ i li. register_beside id v w at (ap (λ (l : List ℕ). get_or l i 0) (sym pins))
        left (words_same p s.words i) refl (k.registers i li)) mine (λ j u _. k.each_seat j u))

  pub reads : (p : Plan) (slots id : ℕ) (m : M) (c : ℕ) → m.0.spent ≡ false
      → Allows (Kept p) slots id m c (λ n. n) (read (step slots c 0 0 maybe.none) m)
  reads p slots id m c here =
      allowed p slots id m c (λ n. n) (read (step slots c 0 0 maybe.none) m) here (λ s k at.
      let v : SeatView = m.0 in
      let known = k.each_seat id v at in (
        v,
        unmoved k id v at refl c m.1 (le_refl v.left) refl known,
        (
          refl,
          legal_prefix v.plan v.seen k.history known.seen k.legal,
          λ i b q is li lq pin le lw. ap (λ (z : ℕ). get_or s.words z 0) is
              ∙ subst (Holds v.plan s.words i b) (record_prefix v.plan v.seen k.history i
              (get_or v.records i 0) known.seen le) (known.pins i b li pin).holds q lq lw,
        ),
      ))

  -- what a seat learns that sees the whole history
  told_all : {s : St} (v w : SeatView) (k : Kept v.plan s) (id : ℕ) → get_elem? s.views id ≡ some v
      → Learns v (record w { seen = k.history })
  told_all v w k id at = grind (arith, nat_tests)

  pub hears : (p : Plan) (slots id : ℕ) (m : M) (j : ℕ) → m.0.spent ≡ false
      → Allows (Kept p) slots id m j (λ n. n) (caught_up (step slots j 0 0 maybe.none) m)
  hears p slots id m j here =
      allowed p slots id m j (λ n. n) (caught_up (step slots j 0 0 maybe.none) m) here (λ s k at.
      let v : SeatView = m.0 in
      let known = k.each_seat id v at in
      let w : SeatView = record v { seen = k.history; received = []; seen_end = v.high } in (
        w,
        unmoved k id w at refl j m.1 (le_refl v.left) refl record {
          plan = λ _. refl;
          seen = prefix_self k.history;
          received = (k.history, refl);
          role = λ i has. grind (arith, known.role i has);
          pins = known.pins;
          pin_quota = known.pin_quota;
        },
        (told_all v w k id at, refl, refl),
      ))

  -- a load by which the seat's phase becomes f
  pub notes : (p : Plan) (slots id : ℕ) (m : M) (j : ℕ) (f : UpdatePhase) → m.0.spent ≡ false
      → Allows (Kept p) slots id m j (λ n. n) (λ _ m'. m' ≡ (record m.0 { phase = f }, m.1))
  notes p slots id m j f here =
      allowed p slots id m j (λ n. n) (λ _ m'. m' ≡ (record m.0 { phase = f }, m.1)) here (λ s k at.
      let v : SeatView = m.0 in
      let known = k.each_seat id v at in
      let w : SeatView = record v { phase = f } in (
        w,
        unmoved k id w at refl j m.1 (le_refl v.left) refl record {
          plan = known.plan;
          seen = known.seen;
          received = known.received;
          role = λ i has. grind (arith, known.role i has);
          pins = known.pins;
          pin_quota = known.pin_quota;
        },
        refl,
      ))

  pub revisits : (p : Plan) (slots id : ℕ) (m : M) (j : ℕ) → m.0.spent ≡ false → j < segments m.0.plan
      → j < length m.0.records → 0 < m.0.left
      → Allows (Kept p) slots id m j (λ n. n) (revisited (step slots j 0 0 maybe.none) m)
  revisits table slots id m j here lj wide_records some_left =
      allowed table slots id m j (λ n. n) (revisited (step slots j 0 0 maybe.none) m) here (λ s k at.
      let v : SeatView = m.0 in
      let h : List Entry = k.history in
      let d : BufferPool = k.pools j in
      let x : ℕ = k.pinned j in
      let known = k.each_seat id v at in
      let r = k.registers j lj in
      let w : SeatView = record v {
        seen = h;
        received = [];
        seen_end = v.high;
        left = v.left - 1;
        records = set v.records j (count j h);
        look_records = v.look_records ++ look_record h ∷ [];
      } in
      let there : Pinned v.plan h s.words j d.current (get_or w.records j 0) =
      rw (get_or-set_same v.records j (count j h) 0 wide_records) (record {
        inside = r.current;
        old = le_refl (count j h);
        holds = r.latest;
      }) in
      dite (ℕ_discrete (get_or v.pins j 0) (get_or s.words j 0 / 2 ^ 56 + 1)) (λ same.
      let few : x < 2 ^ 56 = omega (arith, r.wears d.current r.current, pins_at d x d.current refl) in
      let found : get_or s.words j 0 / 2 ^ 56 ≡ d.current = ap (λ (z : ℕ). z / 2 ^ 56) r.word
      ∙ div-mul-add d.current (2 ^ 56) x few in (
        w,
        unmoved k id w at refl j m.1 (omega arith) refl record {
          plan = λ _. refl;
          seen = prefix_self h;
          received = (h, refl);
          role = λ i has. grind (arith, known.role i has);
          pins = λ i b li on_b. dite (ℕ_discrete i j)
              (λ e. let same_b : b ≡ d.current = omega (arith, same, found, rw e at on_b) in rw (e, same_b) there)
              (λ ne. rw (get_or-set_other v.records j i (count j h) 0 ne) (known.pins i b li on_b));
          pin_quota = known.pin_quota;
        },
        ((λ _. (told_all v w k id at, refl, refl)), λ other. absurd (other same)),
      )) (λ other. (
        v,
        unmoved k id v at refl j m.1 (le_refl v.left) refl known,
        ((λ same. absurd (other same)), λ _. refl),
      )))

  pub pins : (p : Plan) (slots id : ℕ) (m : M) (j : ℕ) → m.0.spent ≡ false → j < segments m.0.plan
      → get_or m.0.pins j 0 ≡ 0 → j < length m.0.pins → j < length m.0.records → 0 < m.0.left → 0 < m.0.pin_quota
      → Allows (Kept p) slots id m j (λ n. (n + 1) % 2 ^ 64) (pinning (step slots j 1 0 maybe.none) m)
  pins table slots id m j here lj bare wide_pins wide_records some_left some_share =
      allowed table slots id m j (λ n. (n + 1) % 2 ^ 64) (pinning (step slots j 1 0 maybe.none) m)
      here (λ s k at.
      let v : SeatView = m.0 in
      let p : Plan = v.plan in
      let h : List Entry = k.history in
      let d : BufferPool = k.pools j in
      let x : ℕ = k.pinned j in
      let known = k.each_seat id v at in
      let r = k.registers j lj in
      let y : ℕ = (get_or s.words j 0 + 1) % 2 ^ 64 in
      let ws : List ℕ = set s.words j y in
      let room : x + 1 < 2 ^ 56 = omega (
        arith,
        total_one (λ u. u.left) s.views id v at,
        r.wears d.current r.current,
        pins_at d x d.current refl,
      ) in
      let found : get_or s.words j 0 / 2 ^ 56 ≡ d.current = ap (λ (z : ℕ). z / 2 ^ 56) r.word
      ∙ div-mul-add d.current (2 ^ 56) x (omega arith) in
      let one_more : y ≡ get_or s.words j 0 + 1 = omega (arith, r.word, r.current, k.few) in
      let w : SeatView = record v {
        seen = h;
        received = [];
        seen_end = v.high;
        left = v.left - 1;
        pins = set v.pins j (get_or s.words j 0 / 2 ^ 56 + 1);
        records = set v.records j (count j h);
        look_records = v.look_records ++ look_record h ∷ [];
      } in
      let pin : get_or w.pins j 0 ≡ d.current + 1 =
      get_or-set_same v.pins j (get_or s.words j 0 / 2 ^ 56 + 1) 0 wide_pins ∙ ap (λ (z : ℕ). z + 1) found in
      let vs : List SeatView = set s.views id w in
      let apart : (i b q : ℕ) → cell p i b q ≢ j = λ i b q e. cell_behind p i b q j lj (sym e) in
      let cells : (i b q : ℕ) → get_or ws (cell p i b q) 0 ≡ get_or s.words (cell p i b q) 0 =
      λ i b q. get_or-set_other s.words j (cell p i b q) y 0 (apart i b q) in
      let less_left : total (λ u. u.left) vs + 1 ≡ total (λ u. u.left) s.views =
      omega (arith, total_set (λ u. u.left) s.views id v w at) in
      let sums : (b : ℕ) → total (on j b) vs + on j b v ≡ total (on j b) s.views + on j b w =
      λ b. total_set (on j b) s.views id v w at in
      let t = other d.current d.found_pinned in
      let beyonds = total_set (beyond j t d.current) s.views id v w at in
      let word = get_or-set_same s.words j y 0 (omega (arith, k.wide)) in
      let own : Register p h ws vs j d (x + 1) = grind (arith, nat_tests, get_or-set_other {A = ℕ}) in
      let elsewhere : (i : ℕ) → i ≢ j → get_or v.pins i 0 ≡ get_or w.pins i 0 =
      λ i ne. sym (get_or-set_other v.pins j i (get_or s.words j 0 / 2 ^ 56 + 1) 0 ne) in
      let there : Pinned p h ws j d.current (get_or w.records j 0) =
      rw (get_or-set_same v.records j (count j h) 0 wide_records) (record {
        inside = r.current;
        old = le_refl (count j h);
        holds = own.latest;
      }) in (
        w,
        pin_step k id w at refl j j y (x + 1) (omega arith)
            (λ a la ne. word_apart p a j lj ne) apart elsewhere own record {
              plan = λ _. refl;
              seen = prefix_self h;
              received = (h, refl);
              role = λ i has. grind (arith, known.role i has);
              pins = λ i b li on_b. dite (ℕ_discrete i j)
                  (λ e. let same : b ≡ d.current = omega (arith, pin, rw e at on_b) in rw (e, same) there)
                  (λ ne. rw (get_or-set_other v.records j i (count j h) 0 ne)
                  (pinned_stays (prefix_self h) (λ q lq. cells i b q) (known.pins i b li (elsewhere i ne ∙ on_b))));
              pin_quota = λ i some_pin. some_share;
            },
        (told_all v w k id at, refl, omega (arith, found, r.current), refl),
      ))

  pub gives_back : (p : Plan) (slots id : ℕ) (m : M) (c j b : ℕ) → m.0.spent ≡ false → j < segments m.0.plan
      → get_or m.0.pins j 0 ≡ b + 1 → j < length m.0.pins → c ≡ given m.0.plan j b
      → Allows (Kept p) slots id m c (λ n. (n + 1) % 2 ^ 64) (giving (step slots c 1 0 maybe.none) m)
  gives_back table slots id m c j b here lj pin wide_pins place = rw place
      (allowed table slots id m (given m.0.plan j b) (λ n. (n + 1) % 2 ^ 64)
      (giving (step slots (given m.0.plan j b) 1 0 maybe.none) m) here (λ s k at.
      let v : SeatView = m.0 in
      let p : Plan = v.plan in
      let h : List Entry = k.history in
      let d : BufferPool = k.pools j in
      let x : ℕ = k.pinned j in
      let known = k.each_seat id v at in
      let r = k.registers j lj in
      let lb : b < buffers p = (known.pins j b lj pin).inside in
      let at_b : ℕ = given p j b in
      let y : ℕ = (get_or s.words at_b 0 + 1) % 2 ^ 64 in
      let one_more : y ≡ get_or s.words at_b 0 + 1 = omega (arith, r.wears b lb, r.balance b lb) in
      let ws : List ℕ = set s.words at_b y in
      let w : SeatView = record v { pins = set v.pins j 0 } in
      let vs : List SeatView = set s.views id w in
      let apart : (i a q : ℕ) → cell p i a q ≢ at_b =
      λ i a q e. given_cell p j b i a q lj lb (sym e) in
      let cells : (i a q : ℕ) → get_or ws (cell p i a q) 0 ≡ get_or s.words (cell p i a q) 0 =
      λ i a q. get_or-set_other s.words at_b (cell p i a q) y 0 (apart i a q) in
      let there : get_or ws at_b 0 ≡ get_or s.words at_b 0 + 1 =
      get_or-set_same s.words at_b y 0 (omega (arith, k.wide, given_inside p j b lj lb)) ∙ one_more in
      let gone : get_or w.pins j 0 ≡ 0 = get_or-set_same v.pins j 0 0 wide_pins in
      let elsewhere : (i : ℕ) → i ≢ j → get_or v.pins i 0 ≡ get_or w.pins i 0 =
      λ i ne. sym (get_or-set_other v.pins j i 0 0 ne) in
      let sums : (b : ℕ) → total (on j b) vs + on j b v ≡ total (on j b) s.views + on j b w =
      λ b. total_set (on j b) s.views id v w at in
      let t = other d.current d.found_pinned in
      let beyonds = total_set (beyond j t d.current) s.views id v w at in
      let lefts = total_same (λ u. u.left) s.views id v w at refl in
      let word = get_or-set_other s.words at_b j y 0 (given_behind p j b j lj) in
      let own : Register p h ws vs j d x = grind (arith, nat_tests, get_or-set_other {A = ℕ}) in
      let not_here : (i : ℕ) → 0 < get_or w.pins i 0 → i ≢ j =
      λ i some_pin e. omega (arith, gone, rw e at some_pin) in (
        w,
        pin_step k id w at refl j at_b y x (le_refl v.left)
            (λ a la ne. given_apart p a j b la lj lb ne) apart elsewhere own record {
              plan = λ _. refl;
              seen = known.seen;
              received = known.received;
              role = λ i has. grind (arith, known.role i has);
              pins = λ i a li on_a. pinned_stays (prefix_self h) (λ q lq. cells i a q)
                  (known.pins i a li (elsewhere i (not_here i (omega arith)) ∙ on_a));
              pin_quota = λ i some_pin. known.pin_quota i (omega (arith, elsewhere i (not_here i some_pin)));
            },
        λ i a la is. ap (λ (z : ℕ). (record m.0 { pins = set m.0.pins z 0 }, m.1)) (given_same p j b i a lb la is).0,
      )))
