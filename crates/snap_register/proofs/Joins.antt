-- A view is split in two, or joined with another.
use Rattle.std.proofs.Common.{◌≡◌, ◌≢◌, ℕ, zero, suc, ◌+◌, ◌<◌, ◌≤◌, ◌⊎◌, inl, inr, ⊎_elim, List, [], ◌∷◌, ◌++◌}
use Rattle.std.proofs.Common.{length, get_or, set, refl, ap, sym, ◌∙◌, arith}
use Rattle.std.proofs.lemmas.List.{length-set}
use Rattle.atomic_table.specs.Table.{State, Splits, Joins}
use Rattle.atomic_table.proofs.Lists.{set_else}
use Rattle.snap_register.specs.Rule.{Has, total, Knows, Kept, messenger, reader, without_reader, first_role}
use Rattle.snap_register.specs.Rule.{without_first_role, with_received, with_seen_of, spent}
use Rattle.std.proofs.lemmas.Bool.Decides.{nat_tests}
use Rattle.snap_register.proofs.Keeps.{turn, turn_else, over_pins, words_same, register_stays, knows_stays}
use Rattle.snap_register.proofs.Keeps.{seats_stay}
use Rattle.snap_register.specs.{declared.plan.Entry.Entry, declared.plan.Plan.Plan, declared.plan.SeatView.SeatView}
use Rattle.snap_register.proofs.{Lines.prefix_self, Sums.total_set, Sums.total_push}
use mathlib.Core.List.{IsPrefix}
use mathlib.Core.Option.{some, some-injective, some-ne-none}
use lib.ListN.{get_elem?}

at_end : {A : Type 0} (l : List A) (a b : A) (j : ℕ) → get_elem? (l ++ a ∷ []) j ≡ some b
    → (get_elem? l j ≡ some b) ⊎ ((j ≡ length l) × (a ≡ b))
at_end [] a b zero e = inr (refl, some-injective a b e)
at_end [] a b (suc j) e = absurd (some-ne-none b (sym e))
at_end (x ∷ xs) a b zero e = inl e
at_end (x ∷ xs) a b (suc j) e = ⊎_elim (λ z. inl z) (λ t. inr (ap suc t.0, t.1)) (at_end xs a b j e)

-- a sum after view v became a and a new view b was added
cut : (f : SeatView → ℕ) (vs : List SeatView) (id : ℕ) (v a b : SeatView) → get_elem? vs id ≡ some v
    → total f (set vs id a ++ b ∷ []) + f v ≡ total f vs + f a + f b
cut f vs id v a b at = omega (arith, total_set f vs id v a at, total_push f (set vs id a) b)

-- a sum after views v and u became a and b
bound : (f : SeatView → ℕ) (vs : List SeatView) (id other : ℕ) (v u a b : SeatView) → get_elem? vs id ≡ some v
    → get_elem? (set vs id a) other ≡ some u → total f (set (set vs id a) other b) + f v + f u ≡ total f vs + f a + f b
bound f vs id other v u a b at there =
    omega (arith, total_set f vs id v a at, total_set f (set vs id a) other u b there)

module _ (S : Type 0) where
  -- the rule, over other views that hold the same pins
  over : {p : Plan} {s : State S SeatView} (k : Kept p s) (writer : ℕ → ℕ) (vs : List SeatView)
      → total (λ v. v.pin_quota) vs ≤ total (λ v. v.pin_quota) s.views
      → total (λ v. v.left) vs ≤ total (λ v. v.left) s.views → ((i : ℕ) (f : ℕ → ℕ) → f 0 ≡ 0
      → over_pins f i vs ≡ over_pins f i s.views) → ((j : ℕ) (v : SeatView) → get_elem? vs j ≡ some v
      → Knows p k.history s.words writer k.pools j v) → Kept p record { words = s.words; homes = s.homes; views = vs }
  over {p} {s} k writer vs pin_quotas lefts pins each = record {
    history = k.history;
    writer = writer;
    pools = k.pools;
    pinned = k.pinned;
    wide = k.wide;
    shares = omega (arith, k.shares);
    few = k.few;
    legal = k.legal;
    registers = λ i li. register_stays (words_same p s.words i) (pins i) lefts refl (k.registers i li);
    each_seat = each;
  }

  -- the rule after view v became a, with its pins, and a new view b without pins was added
  over_cut : {p : Plan} {s : State S SeatView} (k : Kept p s) (writer : ℕ → ℕ) (id : ℕ) (v a b : SeatView)
      → get_elem? s.views id ≡ some v → a.left + b.left ≤ v.left → a.pin_quota + b.pin_quota ≤ v.pin_quota → ((i : ℕ)
      → get_or a.pins i 0 ≡ get_or v.pins i 0) → ((i : ℕ) → get_or b.pins i 0 ≡ 0)
      → Knows p k.history s.words writer k.pools id a → Knows p k.history s.words writer k.pools (length s.views) b
      → ((j : ℕ) (u : SeatView) → j ≢ id → get_elem? s.views j ≡ some u → Knows p k.history s.words writer k.pools j u)
      → Kept p record { words = s.words; homes = s.homes; views = set s.views id a ++ b ∷ [] }
  over_cut {p} {s} k writer id v a b at lefts pin_quotas pins bare first second others =
      let K = Knows p k.history s.words writer k.pools in
      over k writer (set s.views id a ++ b ∷ []) (omega (arith, cut (λ u. u.pin_quota) s.views id v a b at))
      (omega (arith, cut (λ u. u.left) s.views id v a b at))
      (λ i f none. grind (arith, cut (λ u. f (get_or u.pins i 0)) s.views id v a b at, pins i, bare i))
      (λ j u e. ⊎_elim (seats_stay S K s.views id a first others j u)
      (λ t. rw (t.0 ∙ length-set s.views id a, ← t.1) second) (at_end (set s.views id a) b u j e))

  -- a new seat without pins that writes nothing; the old one keeps its pins and what it writes
  parts : (p : Plan) (id : ℕ) (v : SeatView) (quota left quota' left' : ℕ) (pins records : List ℕ)
      → left + left' ≤ v.left → quota + quota' ≤ v.pin_quota
      → ((i : ℕ) → 0 < get_or v.pins i 0 → 0 < quota) → ((i : ℕ) → get_or pins i 0 ≡ 0)
      → Splits {S = S} (Kept p) id v (record v { pin_quota = quota; left = left }) (record v {
        received = [];
        low = 0;
        high = 0;
        seen_end = 0;
        pool_end = 0;
        pin_quota = quota';
        left = left';
        pins = pins;
        records = records;
      })
  parts p id v quota left quota' left' pins records lefts quotas still bare s k at =
      let mine = k.each_seat id v at in
      over_cut k k.writer id v _ _ at lefts quotas (λ i. refl) bare
      record {
        plan = mine.plan;
        seen = mine.seen;
        received = mine.received;
        role = λ i has. grind (arith, mine.role i has);
        pins = mine.pins;
        pin_quota = still;
      }
      record {
        plan = mine.plan;
        seen = mine.seen;
        received = (k.history, refl);
        role = λ i has. absurd (omega (arith, has.1));
        pins = λ i c li e. absurd (omega (arith, bare i));
        pin_quota = λ i some_pin. omega (arith, bare i);
      }
      (λ j u _ there. k.each_seat j u there)

  -- the new seat has seen as much as the old one
  pub shares : (p : Plan) (id : ℕ) (v : SeatView) → Splits {S = S} (Kept p) id v v (messenger v)
  shares p id v s k at = parts p id v v.pin_quota v.left 0 0 [] [] (omega arith) (omega arith)
      (k.each_seat id v at).pin_quota (λ i. refl) s k at

  -- the new seat has a pin per register and a seat's looks, and writes nothing
  pub seats_reader : (p : Plan) (id : ℕ) (v : SeatView) → ((i : ℕ) → get_or v.pins i 0 ≡ 0) → v.plan.looks ≤ v.left
      → 1 ≤ v.pin_quota → Splits {S = S} (Kept p) id v (without_reader v) (reader v)
  seats_reader p id v bare some_looks some_share = grind (arith, nat_tests, parts)

  -- the new seat writes the first segment, the old one those after it
  pub gives : (p : Plan) (id : ℕ) (v : SeatView) → v.seen_end ≡ v.high → v.pool_end ≡ v.high
      → v.low < v.high → ((i : ℕ) → get_or v.pins i 0 ≡ 0) → v.plan.looks ≤ v.left → 1 ≤ v.pin_quota
      → Splits {S = S} (Kept p) id v (without_first_role v) (first_role v)
  gives p id v seen_end pool_end some_role bare some_looks some_share s k at =
      let writer : ℕ → ℕ = turn k.writer v.low (length s.views) in
      let mine = k.each_seat id v at in
      over_cut k writer id v (without_first_role v) (first_role v) at (omega arith) (omega arith) (λ i. refl) bare
      record {
        plan = mine.plan;
        seen = mine.seen;
        received = mine.received;
        role = λ i has. grind (arith, nat_tests, mine.role i (omega arith));
        pins = mine.pins;
        pin_quota = λ i some_pin. omega (arith, bare i);
      }
      record {
        plan = mine.plan;
        seen = mine.seen;
        received = mine.received;
        role = λ i has. grind (arith, nat_tests, mine.role i (omega arith));
        pins = mine.pins;
        pin_quota = λ i some_pin. omega (arith, bare i);
      }
      (λ j u other there. let t = k.each_seat j u there in
      knows_stays (prefix_self k.history) (λ i b q li lb pin lq. refl) (λ i has. (
        turn_else k.writer v.low (length s.views) i (λ z.
            other (sym (t.role i has).own ∙ (ap k.writer z ∙ (mine.role v.low (omega arith)).own))),
        refl,
        refl,
      )) t)

  -- the seat joins what another has seen, which has no pin and writes nothing; the other one is spent
  takes_in : (p : Plan) (id : ℕ) (v : SeatView) (other : ℕ) (u : SeatView) (seen received : List Entry) → ((i : ℕ)
      → get_or u.pins i 0 ≡ 0) → ((h : List Entry) → IsPrefix v.seen h → IsPrefix v.received h → IsPrefix u.seen h
      → IsPrefix seen h × IsPrefix received h) → ((i : ℕ) → Has v i → (i < v.seen_end) × (seen ≡ v.seen))
      → Joins {S = S} (Kept p) id v other u (record v { seen = seen; received = received }) spent
  takes_in p id v other u seen received bare prefixes own s k at apart there =
      let a : SeatView = record v { seen = seen; received = received } in
      let K = Knows p k.history s.words k.writer k.pools in
      let mine : K id v = k.each_seat id v at in
      let theirs : K other u =
      k.each_seat other u (sym (set_else s.views id other a apart) ∙ there) in
      let known = prefixes k.history mine.seen mine.received theirs.seen in
      let sums = λ (f : SeatView → ℕ). bound f s.views id other v u a spent at there in
      over k k.writer (set (set s.views id a) other spent)
      (omega (arith, sums (λ x. x.pin_quota))) (omega (arith, sums (λ x. x.left)))
      (λ i f none. grind (arith, sums (λ x. f (get_or x.pins i 0)), bare i))
      (seats_stay S K (set s.views id a) other spent
      record {
        plan = λ e. absurd cc;
        seen = (k.history, refl);
        received = (k.history, refl);
        role = λ i has. absurd (omega (arith, has.1));
        pins = λ i c li e. absurd (omega arith);
        pin_quota = λ i some_pin. absurd (omega arith);
      }
      (λ j x _. seats_stay S K s.views id a
      record {
        plan = mine.plan;
        seen = known.0;
        received = known.1;
        role = λ i has. grind (arith, mine.role i has, own i has);
        pins = mine.pins;
        pin_quota = mine.pin_quota;
      }
      (λ i y _. k.each_seat i y) j x))

  -- the seat receives what the other has seen
  pub tells : (p : Plan) (id : ℕ) (v : SeatView) (other : ℕ) (u : SeatView) → v.seen_end ≡ v.high → ((i : ℕ)
      → get_or u.pins i 0 ≡ 0) → Joins {S = S} (Kept p) id v other u (with_received v u) spent
  tells p id v other u seen_end bare = takes_in p id v other u v.seen u.seen bare
      (λ h a _ b. (a, b)) (λ i has. (omega (arith, has.1), refl))

  -- a seat that writes nothing has seen what the other has
  pub adopts : (p : Plan) (id : ℕ) (v : SeatView) (other : ℕ) (u : SeatView) → v.low ≡ 0 → v.high ≡ 0 → ((i : ℕ)
      → get_or u.pins i 0 ≡ 0) → Joins {S = S} (Kept p) id v other u (with_seen_of v u) spent
  adopts p id v other u low high bare = takes_in p id v other u u.seen v.received bare
      (λ h _ told b. (b, told)) (λ i has. absurd (omega (arith, has.1)))
