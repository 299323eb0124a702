-- One look of a collector is a look of the abstract machine; the next step of a scan, by the numbers that it
-- has read; a memory's values at the places of a set.
-- a scan that has a look to make has no answer, and any other one has
use Rattle.snap_scan.proofs.Sets.{at_some, at_once, at_within, at_is, at_below}
use Rattle.snap_scan.proofs.Collects.{same_turn, Collects-push, no_fall, rose, borrow_moment, clean_moment}
use Rattle.snap_scan.specs.Looks.{IsDecided, IsClean, IsBorrow, IsTurn, IsNoFall}
use Rattle.snap_scan.specs.Course.{IsNext, Course, Borrows}
use Rattle.snap_scan.specs.Collects.{IsRising, IsKept, Collects}
use Rattle.snap_scan.specs.declared.next.Next.TheVariants.{Look, Clean, Borrow}
use Rattle.snap_scan.specs.Sets.{named, size, IsAt}
use Rattle.snap_history.proofs.Moments.{number-le, value_same, take-now}
use Rattle.snap_history.specs.History.{Update, from_nothing, number_after, value_after, IsMemory}
use Rattle.snap_world.specs.inside.Gathers.{value_in, picked, MayLook, Gathers, Gathered, RegisterStands, ViewStands}
use Rattle.snap_world.specs.inside.Gathers.{RegistersStand}
use Rattle.snap_world.specs.Machine.{State, WriterState, ShownWith, Decides, looked, IsLook}
use Rattle.snap_world.specs.Answers.{ScanState, number_at, value_at, numbers_of, values_of}
use Rattle.std.proofs.Common.{rules, ◌≡◌, ℕ, ◌+◌, ◌<◌, List, [], inl, inr, slice_index, refl, arith, length, get_or}
use Rattle.std.proofs.Common.{Some, slice_get, slice_set, ap, sym, ◌∙◌, subst, ◌≤◌, ◌∷◌, ◌++◌, take, Option, None}
use Rattle.std.proofs.lemmas.List.{length-map, length-set, ext_get_or}
use Rattle.std.proofs.lemmas.Option.{slice_get-map, get_or_from_slice_get, unwrap_or-slice_get, same_Some}
use Rattle.std.proofs.lemmas.Option.{slice_get_read, slice_get-get_or}
use Rattle.snap_scan.specs.{declared.next.Next.Next}
use Rattle.snap_history.proofs.{Pairs.partner, Lists.get-set_same, Lists.get-set_other}
use Rattle.snap_world.specs.{declared.collector.Collector.Collector, declared.register.Register.Register}
use Rattle.std.specs.{Prelude.option_map, Prelude.unwrap_or}
use Rattle.std.proofs.{Math.Logic.∥∥₁_elim, lemmas.Bool.cases_eq, Props.props}

pub undecided : (set : ℕ) (L : List ℕ) (v : Next) (j : ℕ) → IsNext set L v → v ≡ Look j → IsDecided (size set) L → ⊥
undecided set L v j is e (inl clean) = let f : v ≡ Clean = is.clean.1 clean in cc
undecided set L v j is e (inr borrow) =
    let at = at_some set borrow.0 borrow.1.segment in
    cc ((is.borrow (slice_index (named set) borrow.0)).1 (borrow.0, at, borrow.1))

pub decided : (set : ℕ) (L : List ℕ) (v : Next) → IsNext set L v → ((j : ℕ) → v ≡ Look j → ⊥) → IsDecided (size set) L
decided set L (Look j) is none = absurd (none j refl)
decided set L Clean is none = inl (is.clean.0 refl)
decided set L (Borrow j) is none =
    let borrows = (is.borrow j).0 refl in inr (borrows.0, borrows.2)

-- a scan that has read no number has a look to make
pub first_look : (set : ℕ) (v : Next) → 0 < size set → IsNext set [] v → (j : ℕ) × (v ≡ Look j)
first_look set (Look j) pos is = (j, refl)
first_look set Clean pos is = search (rules, is.clean.0)
first_look set (Borrow j) pos is =
    let borrows = (is.borrow j).0 refl in absurd (omega (arith, borrows.2.last.1))

-- the segment of the look follows from the fact that there is one
pub look_from : (v : Next) → ∥ ((j : ℕ) × (v ≡ Look j)) ∥₁ → (j : ℕ) × (v ≡ Look j)
look_from (Look j) some = (j, refl)
look_from v some = absurd (∥∥₁_elim some (hlevel props) (λ q. (cc (q.1))))

-- equal elements are read alike
read_alike : (xs ys : List (List ℕ)) (i j : ℕ) → slice_get xs i ≡ slice_get ys j → get_or xs i [] ≡ get_or ys j []
read_alike xs ys i j e = sym (unwrap_or-slice_get xs i []) ∙ ap (λ v. unwrap_or v []) e ∙ unwrap_or-slice_get ys j []

module _ (set : ℕ) (memory : List (List ℕ)) where
  pub picked_at : (p i : ℕ) → IsAt set p i → slice_get (picked set memory) p ≡ Some (value_in memory i)
  picked_at p i at = slice_get-map (value_in memory) (named set) p ∙ ap (option_map (value_in memory)) at

  pub picked_size : length (picked set memory) ≡ size set
  picked_size = length-map (named set) (value_in memory)

-- a value that is written at a segment of the set is written at its place
pub picked-set : (set : ℕ) (memory : List (List ℕ)) (p j : ℕ) (v : List ℕ) → IsAt set p j → j < length memory
    → picked set (slice_set memory j v) ≡ slice_set (picked set memory) p v
picked-set set memory p j v at l =
    let new = slice_set memory j v in
    let old = picked set memory in
    let long : length (picked set new) ≡ size set = picked_size set new in
    let same_long : length old ≡ size set = picked_size set memory in
    ext_get_or [] (picked set new) (slice_set old p v) (long ∙ sym (length-set old p v ∙ same_long)) (λ q inside. (
    let i = slice_index (named set) q in
    let at_q : IsAt set q i = at_some set q (omega arith) in
    let left = picked_at set new q i at_q in
    let within : p < size set = at_within set p j at in
    read_alike (picked set new) (slice_set old p v) q q (elim (cases_eq q p) [
      | inl e ↦ (
          let i_is : i ≡ j = same_Some i j (sym at_q ∙ ap (slice_get (named set)) e ∙ at) in
          let value : value_in new i ≡ v =
          ap (value_in new) i_is ∙ get_or_from_slice_get new j v [] (get-set_same memory j v l) in
          left ∙ ap (λ z. Some z) value ∙ sym (get-set_same old p v (omega arith))
          ∙ ap (slice_get (slice_set old p v)) (sym e))
      | inr ne ↦ (
          let other : value_in new i ≡ value_in memory i = read_alike new memory i i
          (get-set_other memory j i v (λ e. ne (at_once set q p j (subst (IsAt set q) e at_q) at))) in
          left ∙ ap (λ z. Some z) other ∙ sym (picked_at set memory q i at_q) ∙ sym (get-set_other old p q v ne))
    ])))

pub number_now : (h : List Update) (i : ℕ) → number_at h (length h) i ≡ number_after from_nothing h i
number_now h i = ap (λ g. number_after from_nothing g i) (take-now h)

pub value_now : (h : List Update) (i : ℕ) → value_at h (length h) i ≡ value_after from_nothing h i
value_now h i = ap (λ g. value_after from_nothing g i) (take-now h)

rising : (set : ℕ) (h : List Update) → IsRising (numbers_of set h)
rising set h i s t l = number-le from_nothing h (slice_index (named set) i) s t l

kept : (set : ℕ) (h : List Update) → IsKept (List ℕ) (numbers_of set h) (values_of set h)
kept set h i s t l e = value_same from_nothing h (slice_index (named set) i) s t l e

register_at : (n : ℕ) (x : State) (g : ℕ) (rs : List Register) (j : ℕ) (r : Register)
    → RegistersStand n x g rs → j < n → r ≡ get_or rs j r → RegisterStands n x.history j r
register_at n x g rs j r stand l e = stand.each j r (slice_get_read rs n j r (sym stand.size) l e)

module _ (n set : ℕ) (x : State) (g : ℕ) (s : ScanState) (col : Collector)
    (gat : Gathers n set x.history s col) (j : ℕ) (turn : col.scan.next ≡ Look j) where
  abbrev h : List Update
  h = x.history

  abbrev now : ℕ
  now = length x.history

  -- the place of the segment in the set
  abbrev place : ℕ
  place = (gat.next.look j turn).0

  -- the number of the segment now
  abbrev k : ℕ
  k = numbers_of set x.history (length x.history) (gat.next.look j turn).0

  at : IsAt set place j
  at = (gat.next.look j turn).1

  here : IsTurn (size set) s.told place
  here = (gat.next.look j turn).2

  segment_is : slice_index (named set) place ≡ j
  segment_is = at_is set place j at

  turn_within : j < n
  turn_within = at_below set n place j gat.among at

  -- the scan, whose last look was at this moment, has read these numbers and saw this memory
  abbrev Collected : ℕ → List ℕ → List (List ℕ) → Type 0
  Collected last told memory = Collects (List ℕ) (size set) (numbers_of set h) (values_of set h)
      s.start last told (picked set memory)

  collects : Collected s.last s.told col.memory.items
  collects = (subst (Gathered set h s col.memory.items) turn gat.gathered).0

  end2 : s.start ≤ now
  end2 = let a : s.start ≤ s.last = gat.start in let b : s.last ≤ now = gat.end in omega arith

  told_fits : (number : ℕ) → number ≡ number_after from_nothing h j → (p : ℕ)
      → IsAt col.scan.set p j → IsNoFall (size col.scan.set) col.scan.told p number
  told_fits number e =
      let fits : IsNoFall (size set) s.told place k =
      no_fall _ _ _ _ _ _ _ _ collects (rising set h) now place gat.end (at_within set place j at) in
      let number_is : k ≡ number = ap (number_at h now) segment_is ∙ number_now h j ∙ sym e in
      subst (λ z. (p : ℕ) → IsAt z p j → IsNoFall (size z) col.scan.told p number) (sym gat.set_is)
      (search (rules, at_once, at))

  -- the moment and the values after a look, by the scan's next step
  abbrev Goes : List (List ℕ) → Next → Type 0
  Goes memory v = (m : Option ℕ) × Decides set x (looked x s k m) m × Gathered set h (looked x s k m) memory v

  goes_other : (v : Next) (memory : List (List ℕ)) → length memory ≡ n → IsNext set (s.told ++ k ∷ []) v
      → ((i : ℕ) → v ≡ Borrow i → ⊥) → Collected now (s.told ++ k ∷ []) memory → Goes memory v
  goes_other (Look i) memory long is none c = (None, undecided set (s.told ++ k ∷ []) (Look i) i is refl, (c, refl))
  goes_other (Borrow i) memory long is none c = absurd (none i refl)
  goes_other Clean memory long is none c =
      let no_borrow : (p : ℕ) → IsBorrow (size set) (s.told ++ k ∷ []) p → ⊥ = λ p br. none (slice_index (named set) p)
      ((is.borrow (slice_index (named set) p)).1 (p, at_some set p br.segment, br)) in
      let clean : IsClean (size set) (s.told ++ k ∷ []) = is.clean.0 refl in
      let pos : 0 < size set = omega (arith, at_within set place j at) in
      let q = clean_moment _ _ _ _ _ _ _ _ c (rising set h) (kept set h) pos clean no_borrow in (
        Some q.0,
        (inl clean, q.1, λ i br. absurd (no_borrow br.0 br.2)),
        record {
          p = q.0;
          moment = refl;
          is_moment = q.1;
          is = λ p i at_p. slice_get-get_or memory i [] (omega (arith, long, at_below set n p i gat.among at_p))
              ∙ sym (picked_at set memory p i at_p) ∙ q.2 p (at_within set p i at_p)
              ∙ ap (λ z. Some (value_at h q.0 z)) (at_is set p i at_p);
        },
      )

  goes_borrow : (i : ℕ) (memory : List (List ℕ)) (p : ℕ) → IsNext set (s.told ++ k ∷ []) (Borrow i) → p ≤ now
      → numbers_of set h p place + 1 ≡ k → ShownWith x j p → IsMemory n from_nothing (take p h) memory
      → Goes memory (Borrow i)
  goes_borrow i memory p is pl before shown mem =
      let borrows : Borrows set (s.told ++ k ∷ []) i = (is.borrow i).0 refl in
      let br : IsBorrow (size set) (s.told ++ k ∷ []) place = subst (IsBorrow (size set) (s.told ++ k ∷ []))
      (same_turn (size set) s.told k borrows.0 place here borrows.2) borrows.2 in
      let not_clean : IsClean (size set) (s.told ++ k ∷ []) → ⊥ =
      λ cl. (let e : Borrow i ≡ Clean = is.clean.1 cl in cc) in
      let m = borrow_moment _ _ _ _ _ _ _ _ collects (rising set h) now place gat.end here br p pl before not_clean in (
        Some p,
        (
          inr (borrows.0, borrows.2),
          m,
          λ l bl. (
              let one : bl.0 ≡ place = same_turn (size set) s.told k bl.0 place here bl.2 in
              let same : j ≡ l = same_Some j l (sym at ∙ ap (slice_get (named set)) (sym one) ∙ bl.1) in
              subst (λ z. ShownWith x z p) same shown),
        ),
        record {
          p = p;
          moment = refl;
          is_moment = m;
          is = λ q l at_q. mem.values l (at_below set n q l gat.among at_q);
        },
      )

  module _ (rs : List Register) (born : g ≤ s.start) (regs : RegistersStand n x g rs) (r : Register)
      (read : r ≡ get_or rs j r) (t : Course) (same_set : t.set ≡ col.scan.set) (told : t.told
      ≡ col.scan.told ++ r.number ∷ []) (v : Next) (same : v ≡ t.next) (decides : IsNext t.set t.told v) where
    stand : RegisterStands n h j r
    stand = register_at n x g rs j r regs turn_within read

    number_is : r.number ≡ k
    number_is = stand.number ∙ sym (number_now h j) ∙ ap (number_at h now) (sym segment_is)

    told_k : t.told ≡ s.told ++ k ∷ []
    told_k = told ∙ ap (λ L. L ++ r.number ∷ []) gat.told ∙ ap (λ z. s.told ++ z ∷ []) number_is

    is : IsNext set (s.told ++ k ∷ []) v
    is = subst (λ L. IsNext set L v) told_k (subst (λ z. IsNext z t.told v) (same_set ∙ gat.set_is) decides)

    goes : (col2 : Collector) → col2.scan ≡ t → length col2.memory.items ≡ n → Goes col2.memory.items v
        → (u : ScanState) × IsLook set x s r.number u × Gathers n set x.history u col2
    goes col2 scan-is long f = (
      looked x s k f.0,
      record {
        segment = j;
        turn = (place, at, here);
        number = stand.number;
        after = ap (λ z. looked x s z f.0) (sym number_is);
        decides = f.1;
      },
      record {
        set_is = ap (λ (z : Course). z.set) scan-is ∙ same_set ∙ gat.set_is;
        among = gat.among;
        told = ap (λ (z : Course). z.told) scan-is ∙ told_k;
        next = subst (IsNext set (s.told ++ k ∷ [])) (same ∙ ap (λ (z : Course). z.next) (sym scan-is)) is;
        size = long;
        start = end2;
        end = omega arith;
        gathered = subst (Gathered set h (looked x s k f.0) col2.memory.items) (same
            ∙ ap (λ (z : Course). z.next) (sym scan-is)) f.2;
      },
    )

    pub look_other : ((i : ℕ) → v ≡ Borrow i → ⊥) → (col2 : Collector) → col2.scan ≡ t
        → col2.memory.items ≡ slice_set col.memory.items j r.value → (u : ScanState)
        × IsLook set x s r.number u × Gathers n set x.history u col2
    look_other not_borrow col2 scan-is memory-is =
        let value = values_of set h now place in
        let memory : List (List ℕ) = slice_set col.memory.items j value in
        let is_memory : col2.memory.items ≡ memory = memory-is ∙ ap (slice_set col.memory.items j) (stand.value
        ∙ sym (value_now h j) ∙ ap (value_at h now) (sym segment_is)) in
        let old : length col.memory.items ≡ n = gat.size in
        let long : length memory ≡ n = length-set col.memory.items j value ∙ old in
        let within : j < n = turn_within in
        let c : Collected now (s.told ++ k ∷ []) memory =
        subst (Collects (List ℕ) (size set) (numbers_of set h) (values_of set h) s.start now
        (s.told ++ k ∷ [])) (sym (picked-set set col.memory.items place j value at (omega arith)))
        (Collects-push _ _ _ _ _ _ _ _ collects now place gat.end here end2 (picked_size set col.memory.items)) in
        goes col2 scan-is
        (ap length is_memory ∙ long) (subst (λ z. Goes z v) (sym is_memory) (goes_other v memory long is not_borrow c))

    pub look_borrow : (i : ℕ) → v ≡ Borrow i → (col2 : Collector) → col2.scan ≡ t → col2.memory.items ≡ r.view.items
        → (u : ScanState) × IsLook set x s r.number u × Gathers n set x.history u col2
    look_borrow i is_borrow col2 scan-is memory-is =
        let there = slice_get_read rs n j r (sym regs.size) turn_within read in
        let own = partner (λ l q (z : WriterState). ViewStands n h g l q z.view) rs x.writers j r regs.views there in
        let next : IsNext set (s.told ++ k ∷ []) (Borrow i) = subst (IsNext set (s.told ++ k ∷ [])) is_borrow is in
        let borrows : Borrows set (s.told ++ k ∷ []) i = (next.borrow i).0 refl in
        let br : IsBorrow (size set) (s.told ++ k ∷ []) place = subst (IsBorrow (size set) (s.told ++ k ∷ []))
        (same_turn (size set) s.told k borrows.0 place here borrows.2) borrows.2 in
        let high : numbers_of set h s.start place + 2 ≤ k =
        rose _ _ _ _ _ _ _ _ collects (rising set h) now place gat.end here br in
        let base = number-le from_nothing h j g s.start born in
        let p = own.2.kept (omega (arith, high, base, ap (number_at h s.start) segment_is, number_is)) in
        let view = own.2.is_view p.0 p.1 in goes col2 scan-is (ap length memory-is ∙ stand.size)
        (subst (Goes col2.memory.items) (sym is_borrow) (goes_borrow i col2.memory.items p.0 next view.until
        (ap (λ z. number_at h p.0 z + 1) segment_is ∙ view.before ∙ number_is) (
          own.0,
          own.1,
          p.1,
        ) (subst (IsMemory n from_nothing (take p.0 h)) (sym memory-is) view.is_memory)))

-- the facts for the code, if the registers and the collector represent some state
module _ (rs : List Register) (col : Collector) (may : MayLook rs col) (j : ℕ) (turn : col.scan.next ≡ Look j) where
  pub place_there : j < length col.memory.items
  place_there = ∥∥₁_elim may (hlevel props) (λ q. (
      omega (arith, turn_within q.0 q.1 q.2 q.3 q.4 col q.7 j turn, q.7.size)))

  pub register_there : j < length rs
  register_there = ∥∥₁_elim may (hlevel props) (λ q. (
      omega (arith, turn_within q.0 q.1 q.2 q.3 q.4 col q.7 j turn, q.6.size)))

  module _ (r : Register) (read : r ≡ get_or rs j r) where
    pub view_fits : length col.memory.items ≡ length r.view.items
    view_fits = ∥∥₁_elim may (hlevel props) (λ q. (
        let within = turn_within q.0 q.1 q.2 q.3 q.4 col q.7 j turn in
        q.7.size ∙ sym (register_at q.0 q.2 q.3 rs j r q.6 within read).size))

    pub number_fits : (p : ℕ) → IsAt col.scan.set p j → IsNoFall (size col.scan.set) col.scan.told p r.number
    number_fits = ∥∥₁_elim may (hlevel props) (λ q. (
        let within = turn_within q.0 q.1 q.2 q.3 q.4 col q.7 j turn in
        told_fits q.0 q.1 q.2 q.3 q.4 col q.7 j turn r.number (register_at q.0 q.2 q.3 rs j r q.6 within read).number))

pub ruleset look_facts = (register_there, number_fits, view_fits)
