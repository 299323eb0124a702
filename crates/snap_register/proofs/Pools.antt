-- A writer's steps keep the rule: a check of a buffer, a load and a store in the free one, a publication.
use Rattle.std.proofs.Common.{◌≡◌, ◌≢◌, ℕ, ◌+◌, ◌-◌, ◌*◌, ◌^◌, ◌<◌, ◌≤◌, List, [], ◌∷◌, ◌++◌, length, get_or, set}
use Rattle.std.proofs.Common.{false, refl, ap, sym, ◌∙◌, arith, length-append, get_or-set_same, get_or-set_other}
use Rattle.std.proofs.Common.{le_refl, suc}
use Rattle.std.proofs.lemmas.List.{get_or_append_left, get_or-append_right, get_or_push, get_or-take, length-take-le}
use Rattle.std.proofs.lemmas.List.{length-set}
use Rattle.atomic_table.specs.Table.{State, Me, step, stepped, Allows}
use Rattle.atomic_table.specs.Table.Act.{keeps}
use Rattle.snap_history.specs.Limits.{IsNumber}
use Rattle.snap_register.specs.History.{entry, only, count, number}
use Rattle.snap_register.specs.Rule.{segments, buffers, width, given, cell, Follows, IsLegal, IsWriter, total}
use Rattle.snap_register.specs.Rule.{on, beyond, other, pins_of, Register, Writes, Knows, Kept, checked, reused}
use Rattle.snap_register.specs.Rule.{redrafted, without_last, next_other, moved_pool, published, retained, old_record}
use Rattle.snap_register.specs.Rule.{old_words, HoldsRecords}
use Rattle.snap_register.proofs.Lines.{prefix_self, prefix_trans, only_push_other, count_push_same, count_push_other}
use Rattle.snap_register.proofs.Lines.{record_last, record_prefix, none_between, legal_push, legal_prefix}
use Rattle.snap_register.proofs.Lines.{follows_later}
use Rattle.snap_register.proofs.Places.{cell_same, cell_behind, given_cell, cell_inside}
use Rattle.snap_register.proofs.Places.{word_apart, cell_apart}
use Rattle.snap_register.proofs.Sums.{total_same, total_le, none_on, other_ne, beyond_next, pins_at}
use Rattle.snap_register.proofs.Sums.{pins_else, pins_moved}
use Rattle.snap_register.proofs.Keeps.{turn, turn_here, turn_else, SameWords, words_same, words_beside, register_beside}
use Rattle.snap_register.proofs.Keeps.{pinned_stays, knows_stays, allowed, after, step_keeps, loaded}
use Rattle.std.proofs.lemmas.Bool.Decides.{nat_tests}
use Rattle.snap_register.specs.declared.plan.{Entry.Entry, Plan.Plan, BufferPool.BufferPool, SeatView.SeatView}
use Rattle.snap_register.specs.declared.plan.{UpdatePhase.UpdatePhase, UpdatePhase.TheVariants.Shown}
use mathlib.Core.List.{IsPrefix}
use Rattle.snap_register.specs.Rule.{Holds}
use Rattle.snap_register.specs.{History.record_words, Words.piece}
use Rattle.snap_register.proofs.Blocks.{piece_length, piece_get}
use mathlib.Core.Logic.{dite}
use mathlib.Core.Option as maybe
use mathlib.Core.Option.{some}
use native.Mathlib.Decide.{ℕ_discrete, dec_le}
use lib.ListN.{get_elem?}

module _ (S : Type 0) where
  abbrev St : Type 0
  St = State S SeatView

  abbrev M : Type 0
  M = Me S SeatView

  module _ {s : St} (id : ℕ) {v : SeatView} (k : Kept v.plan s) {i : ℕ}
      (at : get_elem? s.views id ≡ some v) (role : IsWriter v i) (inside : i < segments v.plan) where
    -- what the writer of register i knows of it before a step
    known : Knows v.plan k.history s.words k.writer k.pools id v
    known = k.each_seat id v at

    own : Writes v.plan k.history s.words k.writer k.pools id v i
    own = known.role i (omega arith)

    all : only i v.seen ≡ only i k.history
    all = own.all (omega arith)

    register : Register v.plan k.history s.words s.views i v.pool (k.pinned i)
    register = rw (← own.pool (omega arith)) (k.registers i inside)

    -- a step that changes its pool, perhaps words of its free buffer, and perhaps adds its own
    -- update to the history and changes its phase
    pool_step : (ws : List ℕ) (seen h : List Entry) (d : BufferPool) (f : UpdatePhase) (x : ℕ)
        → length ws ≡ length s.words
        → IsPrefix k.history h → IsLegal v.plan h → IsPrefix seen h → only i seen ≡ only i h → ((a : ℕ) → a ≢ i
        → only a h ≡ only a k.history) → ((a : ℕ) → a < segments v.plan → a ≢ i → SameWords v.plan s.words ws a)
        → ((b q : ℕ) → b < buffers v.plan → q < width v.plan → b ≢ v.pool.free_buffer
        → get_or ws (cell v.plan i b q) 0 ≡ get_or s.words (cell v.plan i b q) 0)
        → Register v.plan h ws (set s.views id (record v { seen = seen; pool = d; phase = f })) i d x
        → Kept v.plan (after S s ws id (record v { seen = seen; pool = d; phase = f }))
    pool_step ws seen h d f x wide later legal sees all' lines words cells mine =
        let p : Plan = v.plan in
        let w : SeatView = record v { seen = seen; pool = d; phase = f } in
        let pinned : (j : ℕ) (u : SeatView) → get_elem? s.views j ≡ some u → (a b q : ℕ)
        → a < segments p → b < buffers p → get_or u.pins a 0 ≡ b + 1 → q < width p
        → get_or ws (cell p a b q) 0 ≡ get_or s.words (cell p a b q) 0 =
        λ j u there a b q la lb pin lq. dite (ℕ_discrete a i)
        (λ e. rw e (cells b q lb lq (λ free. none_on i b s.views j u
        (rw free (register.free_buffer (omega arith)).1) there (rw e at pin))))
        (λ ne. (words a la ne).cells b q lb lq) in
        step_keeps S k id w at refl i ws h (turn k.pools i d) x (le_refl v.left) wide legal
        (turn_else k.pools i d) words (λ a ne. refl) lines (rw (turn_here k.pools i d i refl) mine)
        record {
          plan = λ _. refl;
          seen = sees;
          received = prefix_trans v.received k.history h known.received later;
          role = λ a has. let e : a ≡ i = omega arith in grind (arith, nat_tests, own.own);
          pins = λ a b la pin. let y = known.pins a b la pin in
              pinned_stays later (λ q lq. pinned id v at a b q la y.inside pin lq) y;
          pin_quota = known.pin_quota;
        }
        (λ j u other_seat there. let t = k.each_seat j u there in
        knows_stays later (pinned j u there) (λ a has.
        let apart : a ≢ i = λ e. other_seat (sym (t.role a has).own ∙ (ap k.writer e ∙ own.own)) in
        (refl, turn_else k.pools i d a apart, lines a apart)) t)

    -- a load that changes the pool
    pool_load : (c : ℕ) (cs : List (ℕ × S)) (d : BufferPool) (x : ℕ)
        → Register v.plan k.history s.words (set s.views id (record v { pool = d })) i d x
        → Kept v.plan (stepped s c (get_or s.words c 0) id cs (record v { pool = d }) keeps)
    pool_load c cs d x mine = loaded S s c id cs (record v { pool = d })
        (pool_step s.words v.seen k.history d v.phase x refl (prefix_self k.history) k.legal known.seen all
        (λ a ne. refl) (λ a la ne. words_same v.plan s.words a) (λ b q lb lq ne. refl) mine)

    -- the register, over the views with another pool
    with_pool : (seen : List Entry) (d : BufferPool) (f : UpdatePhase) → Register v.plan k.history s.words
        (set s.views id (record v { seen = seen; pool = d; phase = f })) i v.pool (k.pinned i)
    with_pool seen d f = register_beside id v (record v { seen = seen; pool = d; phase = f }) at refl
        (le_refl v.left) (words_same v.plan s.words i) refl register

    -- the record of the free buffer is among those that the seat has seen
    old_seen : old_record v ≤ count i v.seen
    old_seen = omega (arith, register.old v.pool.free_buffer, ap length all)

    old_words_are : old_words v ≡ record_words v.plan k.history i (old_record v)
    old_words_are = rw role.0 (sym (record_prefix v.plan v.seen k.history i (old_record v) known.seen old_seen))

    -- a word of that record, behind the draft
    old_word : (q : ℕ) → v.pool.free_buffer < buffers v.plan → q < width v.plan → 0 < old_record v
        → length v.pool.draft ≤ q → q < length (old_words v)
        → get_or s.words (cell v.plan i v.pool.free_buffer q) 0 ≡ get_or (old_words v) q 0
    old_word q free lq any behind lw = let e = old_words_are in
        register.records v.pool.free_buffer q free lq any (λ _. behind) (rw e at lw)
        ∙ ap (λ (l : List ℕ). get_or l q 0) (sym e)

    -- the next word of the free buffer, after the words l of the draft that stay, is y
    draft_at : (c y : ℕ) (cs : List (ℕ × S)) (l : List ℕ) → v.pool.free_buffer < buffers v.plan
        → length l ≤ length v.pool.draft → length v.pool.draft ≤ length l + 1 → length l < width v.plan
        → ((q : ℕ) → q < length l
        → get_or v.pool.draft q 0 ≡ get_or l q 0) → c ≡ cell v.plan i v.pool.free_buffer (length l)
        → Kept v.plan (stepped s c y id cs (record v { pool = record v.pool { draft = l ++ y ∷ [] } }) keeps)
    draft_at c y cs l free stays few short same place =
        let p : Plan = v.plan in
        let d : BufferPool = v.pool in
        let e : BufferPool = record d { draft = l ++ y ∷ [] } in
        let r = with_pool v.seen e v.phase in
        let n : ℕ = length l in
        let at_n : ℕ = cell p i d.free_buffer n in
        let ws : List ℕ = set s.words at_n y in
        let cells : (b q : ℕ) → b < buffers p → q < width p → ((b ≡ d.free_buffer) → (q ≡ n) → ⊥)
        → get_or ws (cell p i b q) 0 ≡ get_or s.words (cell p i b q) 0 = λ b q lb lq ne.
        get_or-set_other s.words at_n (cell p i b q) y 0 (λ e. let t =
        cell_same p i b q i d.free_buffer n lb free lq short e in ne t.1 t.2) in
        let apart = (r.free_buffer free).0 in
        let long = length-append l (y ∷ []) in
        let there = cell_inside p i d.free_buffer n inside free short in
        let word = get_or-set_other s.words at_n i y 0 (cell_behind p i d.free_buffer n i inside) in
        let last = get_or-set_same s.words at_n y 0 (omega (arith, k.wide)) in
        let givens : (b : ℕ) → b < buffers p → get_or ws (given p i b) 0 ≡ get_or s.words (given p i b) 0 =
        λ b lb. get_or-set_other s.words at_n _ y 0 (given_cell p i b i d.free_buffer n inside lb) in
        let records : HoldsRecords p k.history ws i e = λ b q lb lq any behind lw.
        cells b q lb lq (λ f z. absurd (omega (arith, behind f, long, z)))
        ∙ r.records b q lb lq any (λ f. omega (arith, behind f, long, few)) lw in
        rw place (pool_step ws v.seen k.history e v.phase (k.pinned i) (length-set s.words at_n y)
        (prefix_self k.history) k.legal known.seen all (λ a ne. refl)
        (λ a la ne. words_beside s.words at_n y a (cell_apart p a i d.free_buffer n la free short ne))
        (λ b q lb lq ne. cells b q lb lq (λ e _. ne e)) (grind (arith, get_or_push, get_or_append_left)))

  pub checks : (p : Plan) (slots id : ℕ) (m : M) (i c : ℕ) → m.0.spent ≡ false → IsWriter m.0 i → i < segments m.0.plan
      → m.0.pool.draft ≡ [] → next_other m.0.pool < buffers m.0.plan → c ≡ given m.0.plan i (next_other m.0.pool)
      → Allows (Kept p) slots id m c (λ n. n) (checked (step slots c 0 0 maybe.none) m)
  checks table slots id m i c here role inside empty lb place = rw place
      (allowed S table slots id m (given m.0.plan i (next_other m.0.pool)) (λ n. n)
      (checked (step slots (given m.0.plan i (next_other m.0.pool)) 0 0 maybe.none) m) here (λ s k at.
      let v : SeatView = m.0 in
      let d : BufferPool = v.pool in
      let b : ℕ = next_other d in
      let x : ℕ = k.pinned i in
      let at_b : ℕ = given v.plan i b in
      let apart : d.current ≢ b = λ e. other_ne d.current d.found_pinned (sym e) in
      let counted = pins_else d x b apart in
      dite (ℕ_discrete (get_or s.words at_b 0) (get_or d.counted b 0)) (λ same.
      let e : BufferPool = record d { free_buffer = b; draft = [] } in
      let o = with_pool id k at role inside v.seen e v.phase in
      let records : HoldsRecords v.plan k.history s.words i e = λ a q la lq any _ lw.
      o.records a q la lq any (λ _. omega (arith, ap length empty)) lw in (
        record v { pool = e },
        pool_load id k at role inside at_b m.1 e x (omega (arith, o.balance b lb, records)),
        (λ _. refl, λ ne. absurd (ne same)),
      )) (λ differs.
      let e : BufferPool = record d { found_pinned = d.found_pinned + 1 } in
      let o = with_pool id k at role inside v.seen e v.phase in
      let vs : List SeatView = set s.views id (record v { pool = e }) in
      let next = beyond_next i d.current d.found_pinned vs in
      let some_on : 0 < total (on i b) vs = omega (arith, o.balance b lb) in (
        record v { pool = e },
        pool_load id k at role inside at_b m.1 e x (grind (arith, nat_tests)),
        (λ same. absurd (differs same), λ _. (refl, omega (arith, o.found_pinned))),
      ))))

  -- after a load the next word is the one found
  pub reuses : (p : Plan) (slots id : ℕ) (m : M) (i c : ℕ) → m.0.spent ≡ false → IsWriter m.0 i → i < segments m.0.plan
      → m.0.pool.free_buffer < buffers m.0.plan → length m.0.pool.draft < width m.0.plan
      → c ≡ cell m.0.plan i m.0.pool.free_buffer (length m.0.pool.draft)
      → Allows (Kept p) slots id m c (λ n. n) (reused (step slots c 0 0 maybe.none) m)
  reuses p slots id m i c here role inside free short place =
      allowed S p slots id m c (λ n. n) (reused (step slots c 0 0 maybe.none) m) here (λ s k at. (
        record m.0 { pool = record m.0.pool { draft = m.0.pool.draft ++ get_or s.words c 0 ∷ [] } },
        draft_at id k at role inside c (get_or s.words c 0) m.1 m.0.pool.draft free
            (le_refl (length m.0.pool.draft)) (omega arith) short (λ q lq. refl) place,
        (
          refl,
          λ any. (
            rw role.0 (old_seen id k at role inside),
            legal_prefix m.0.plan m.0.seen k.history (k.each_seat id m.0 at).seen k.legal,
            λ lw. ap (λ (z : ℕ). get_or s.words z 0) place ∙ old_word id k at role inside (length m.0.pool.draft) free
                short any (le_refl (length m.0.pool.draft)) lw,
          ),
        ),
      ))

  -- after a load the draft has the words of the old record as far as the one loaded
  pub keeps_record : (p : Plan) (slots id : ℕ) (m : M) (i q c : ℕ) → m.0.spent ≡ false → IsWriter m.0 i
      → i < segments m.0.plan → m.0.pool.free_buffer < buffers m.0.plan → 0 < old_record m.0
      → length m.0.pool.draft ≤ q + 1 → q < width m.0.plan → q < length (old_words m.0)
      → c ≡ cell m.0.plan i m.0.pool.free_buffer q
      → Allows (Kept p) slots id m c (λ n. n) (retained (step slots c 0 0 maybe.none) m)
  keeps_record table slots id m i q c here role inside free any behind lq lw place =
      allowed S table slots id m c (λ n. n) (retained (step slots c 0 0 maybe.none) m) here (λ s k at.
      let v : SeatView = m.0 in
      let d : BufferPool = v.pool in
      let n : ℕ = length d.draft in
      let l : List ℕ = piece (old_words v) n (q + 1 - n) in
      let e : BufferPool = record d { draft = d.draft ++ l } in
      let o = with_pool id k at role inside v.seen e v.phase in
      let count_l : length l ≡ q + 1 - n = piece_length (old_words v) n (q + 1 - n) in
      let long : length (d.draft ++ l) ≡ q + 1 = length-append d.draft l ∙ omega arith in
      let draft : (a : ℕ) → d.free_buffer < buffers v.plan → a < length (d.draft ++ l)
      → get_or s.words (cell v.plan i d.free_buffer a) 0 ≡ get_or (d.draft ++ l) a 0 = λ a _ la. dite (dec_le (suc a) n)
      (λ lt. o.draft a free lt ∙ sym (get_or_append_left d.draft l 0 a lt))
      (λ ge. old_word id k at role inside a free (omega arith) any (omega arith) (omega arith)
      ∙ sym (get_or-append_right d.draft l n a 0 refl (omega arith) ∙ (piece_get (old_words v) n (q + 1 - n) (a - n)
      (omega arith) ∙ ap (λ (z : ℕ). get_or (old_words v) z 0) (omega arith)))) in
      let records : HoldsRecords v.plan k.history s.words i e = λ a r la lr any' behind' lw'.
      o.records a r la lr any' (λ f. omega (arith, behind' f, long)) lw' in (
        record v { pool = e },
        pool_load id k at role inside c m.1 e (k.pinned i) (grind arith),
        λ a la is. search (arith),
      ))

  -- after a store the word is the one stored
  pub redrafts : (p : Plan) (slots id : ℕ) (m : M) (i c y : ℕ) → m.0.spent ≡ false → IsWriter m.0 i
      → i < segments m.0.plan → m.0.pool.free_buffer < buffers m.0.plan → 0 < length m.0.pool.draft
      → length m.0.pool.draft ≤ width m.0.plan → c ≡ cell m.0.plan i m.0.pool.free_buffer (length m.0.pool.draft - 1)
      → Allows (Kept p) slots id m c (λ _. y) (λ _. redrafted (step slots c y 0 maybe.none) m y)
  redrafts p slots id m i c y here role inside free some_word short place =
      let d : List ℕ = m.0.pool.draft in
      let l : List ℕ = without_last d in
      let long : length l ≡ length d - 1 = length-take-le (length d - 1) d (omega arith) in
      allowed S p slots id m c (λ _. y) (λ _. redrafted (step slots c y 0 maybe.none) m y) here (λ s k at. (
        record m.0 { pool = record m.0.pool { draft = l ++ y ∷ [] } },
        draft_at id k at role inside c y m.1 l free (omega arith) (omega arith) (omega arith)
            (λ q lq. sym (get_or-take (length d - 1) d q 0 (omega arith)))
            (place ∙ ap (cell m.0.plan i m.0.pool.free_buffer) (sym long)),
        refl,
      ))

  pub publishes : (p : Plan) (slots id : ℕ) (m : M) (i y : ℕ) → m.0.spent ≡ false → IsWriter m.0 i
      → i < segments m.0.plan → m.0.pool.free_buffer < buffers m.0.plan → IsNumber (number m.0.plan m.0.seen i + 1)
      → (IsLegal m.0.plan m.0.seen → Follows m.0.plan m.0.seen (entry i m.0.pool.draft))
      → y ≡ m.0.pool.free_buffer * 2 ^ 56
      → Allows (Kept p) slots id m i (λ _. y) (published (step slots i y 0 maybe.none) m)
  publishes table slots id m i y here role inside free small follows is =
      allowed S table slots id m i (λ _. y) (published (step slots i y 0 maybe.none) m) here (λ s k at.
      let v : SeatView = m.0 in
      let p : Plan = v.plan in
      let h : List Entry = k.history in
      let known = k.each_seat id v at in
      let d : BufferPool = v.pool in
      let x : ℕ = k.pinned i in
      let seen_all : count i v.seen ≡ count i h = ap length (all id k at role inside) in
      let e : Entry = entry i d.draft in
      let h' : List Entry = h ++ e ∷ [] in
      let legal' : IsLegal p h' =
      legal_push p h e k.legal (follows_later p v.seen h e known.seen seen_all
      (follows (legal_prefix p v.seen h known.seen k.legal))) in
      let x' : ℕ = get_or s.words i 0 - d.current * 2 ^ 56 in
      let c' : ℕ = get_or d.counted d.current 0 + x' in
      let d' : BufferPool = moved_pool v d.free_buffer x' in
      let w : SeatView = record v { seen = h'; pool = d'; phase = Shown } in
      let r = with_pool id k at role inside h' d' Shown in
      let is_x : x' ≡ x = omega (arith, r.word) in
      let ws : List ℕ = set s.words i y in
      let cells : (b q : ℕ) → get_or ws (cell p i b q) 0 ≡ get_or s.words (cell p i b q) 0 =
      λ b q. get_or-set_other s.words i (cell p i b q) y 0 (λ e.
      cell_behind p i b q i inside (sym e)) in
      let one_more : count i h' ≡ count i h + 1 = count_push_same i h e refl in
      let number' : IsNumber (number p h' i) = omega arith in
      let same_pins : (b : ℕ) → pins_of d' 0 b ≡ pins_of d x b = pins_moved d x c' d.free_buffer
      (omega (arith, r.current, r.counts)) (omega arith) in
      let t : ℕ = other d.free_buffer 0 in
      let few_far = total_le (beyond i t d.free_buffer) (λ u. u.pin_quota) s.views
      (λ j u at_j. grind (arith, nat_tests, (k.each_seat j u at_j).pin_quota i)) in
      let latest : Holds p ws i d.free_buffer (record_words p h' i (count i h')) =
      rw (one_more, record_last p h i d.draft) (λ q lq lw. cells d.free_buffer q ∙ r.draft q free lw) in
      let word = get_or-set_same s.words i y 0 (omega (arith, k.wide)) in
      let far_same = total_same (beyond i t d.free_buffer) s.views id v w at refl in
      let own_count : count v.low v.seen + 1 ≡ count i h' = omega (arith, ap (λ (z : ℕ). count z v.seen) role.0) in
      let wide_free : d.free_buffer < length d.records = omega (arith, r.wide_records) in
      let old_ones : (b : ℕ) → get_or d'.records b 0 ≤ count i h' = λ b. dite (ℕ_discrete b d.free_buffer)
      (λ z. rw (z, get_or-set_same d.records d.free_buffer (count v.low v.seen + 1) 0 wide_free) (omega arith))
      (λ z. rw (get_or-set_other d.records d.free_buffer b (count v.low v.seen + 1) 0 z) (omega (arith, r.old b))) in
      let records : HoldsRecords p h' ws i d' = λ b q lb lq any _ lw. dite (ℕ_discrete b d.free_buffer)
      (λ z. let same : record_words p h' i (get_or d'.records b 0) ≡ d.draft =
      rw (z, get_or-set_same d.records d.free_buffer (count v.low v.seen + 1) 0 wide_free, own_count, one_more)
      (record_last p h i d.draft) in
      cells b q ∙ (rw z (r.draft q free (rw same at lw)) ∙ ap (λ (l : List ℕ). get_or l q 0) (sym same)))
      (λ z. let stays = get_or-set_other d.records d.free_buffer b (count v.low v.seen + 1) 0 z in
      let same : record_words p h' i (get_or d'.records b 0) ≡ record_words p h i (get_or d.records b 0) =
      rw stays (record_prefix p h h' i (get_or d.records b 0) (e ∷ [], refl) (r.old b)) in
      cells b q ∙ (r.records b q lb lq (rw stays at any) (λ f. absurd (z f)) (rw same at lw)
      ∙ ap (λ (l : List ℕ). get_or l q 0) (sym same))) in (
        w,
        pool_step id k at role inside ws h' h' d' Shown 0 (length-set s.words i y) (e ∷ [], refl)
            legal' (prefix_self h') refl (λ a ne. only_push_other a h e (λ z. ne (sym z)))
            (λ a la ne. words_beside s.words i y a (word_apart p a i inside ne)) (λ b q lb lq ne. cells b q)
            (grind (arith, length-set {A = ℕ}, get_or-set_other {A = ℕ})),
        (
          record {
            same = refl;
            between = known.seen.0;
            seen = ap (λ l. l ++ e ∷ []) (sym known.seen.1);
            others = none_between i v.seen h known.seen seen_all;
            legal = legal';
            below = λ a la. dite (ℕ_discrete a i) (λ z. rw z number') (λ z. omega (
              arith,
              count_push_other a h e (λ t. z (sym t)),
              (k.registers a la).number,
            ));
            small = omega (arith, r.wears d.current r.current, pins_at d x d.current refl);
          },
          omega (arith, r.word),
          refl,
        ),
      ))
