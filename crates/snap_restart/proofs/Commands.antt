-- Files on one of which a command worked keep one memory.
use Rattle.std.proofs.Common.{◌≡◌, ◌≢◌, ◌⊎◌, ⊎_elim, ℕ, suc, ◌+◌, ◌<◌, ◌≤◌, ◌==◌, inl, inr, false, List, [], ◌∷◌, ◌++◌}
use Rattle.std.proofs.Common.{length, map, replicate, None, Some, slice_get, slice_set, refl, ap, sym, ◌∙◌, arith}
use Rattle.std.proofs.{Common.append-nil, Common.length-set, lemmas.List.length-map, Common.length-append}
use Rattle.std.proofs.{lemmas.List.length-replicate, Common.if◌then◌else◌, lemmas.Bool.Decides.nat_tests}
use Rattle.std.proofs.lemmas.{Option.same_Some, Option.slice_get_within, Bool.cases_eq}
use Rattle.snap_disk.specs.Device.{MayLeave}
use Rattle.snap_segment.specs.{Layout.IsFileOf, States.IsEither}
use Rattle.snap_slot.proofs.Readings.{holds_same}
use Rattle.snap_history.specs.History.{Update, Start, updates_of, last_value, number_after, value_after}
use Rattle.snap_history.proofs.Moments.{updates-append, last-append, last_none, number-push, number-push_other}
use Rattle.snap_history.proofs.{Moments.value-push, Lists.get-set_same, Lists.get-set_other, Lists.get-append_left}
use Rattle.snap_history.{proofs.Moments.value-push_other, specs.Pairs.Pairs, proofs.Pairs.element, proofs.Pairs.partner}
use Rattle.snap_register.specs.{Registers.no_registers, declared.plan.UpdatePhase.TheVariants.Storing}
use Rattle.snap_writer.{specs.Life.Place, specs.Life.in_store, proofs.Shown.number_kept, proofs.Shown.value_kept}
use Rattle.snap_restart.specs.LifeCrash.{Begun, IsRecovered, KeepMemory}
use Rattle.snap_restart.specs.Restarts.{Works, Held, update, without, from_there, IsJoined}
use Rattle.snap_restart.proofs.Merge.{Found, FileAt, all_found}
use Rattle.snap_restart.proofs.{LifeStarts.kept_now, Removals.get_map, Placed.same_file}
use Rattle.snap_disk.specs.declared.disk.Disk as Disk

-- ---- updates of one segment

-- the last of these updates that is of segment j
record LastOf (v : List ℕ) (j : ℕ) (xs : List Update) : Type 0 where
  place : ℕ
  is : Update
  at : slice_get xs place ≡ Some is
  segment_is : is.segment ≡ j
  value_is : last_value v j xs ≡ is.value
  some : 1 ≤ updates_of j xs

last_here : (v : List ℕ) (j : ℕ) (x : Update) (xs : List Update) → updates_of j xs ≡ 0
    → (updates_of j (x ∷ xs) ≡ 0) ⊎ LastOf v j (x ∷ xs)
last_here v j x xs none = grind (arith, nat_tests, last_none, cases_eq)

last_of : (v : List ℕ) (j : ℕ) (xs : List Update) → (updates_of j xs ≡ 0) ⊎ LastOf v j xs
last_of v j [] = inl refl
last_of v j (x ∷ xs) = ⊎_elim (last_here v j x xs)
    (λ l. let some = l.some in inr (record {
      place = suc l.place;
      is = l.is;
      at = l.at;
      segment_is = l.segment_is;
      value_is = l.value_is;
      some = omega arith;
    }))
    (last_of (if x.segment == j then x.value else v) j xs)

found : (n : ℕ) (start : Start) (h : List Update) (begun : ℕ → List ℕ → Type 0) (files : List (List ℕ))
    → IsRecovered n start h begun files → (j : ℕ) → Found start h begun (FileAt n files) j
found n start h begun files r j =
    let more = r.begun_too in ⊎_elim
    (λ none. inl (λ b at. rw (number_kept start h more j none, value_kept start h more j none) at (r.holds j b at)))
    (λ l.
    let number : number_after start (h ++ more) j ≡ number_after start h j + 1 =
    omega (arith, updates-append j h more, r.once j, l.some) in
    let value = last-append (start j).1 j h more ∙ l.value_is in
    let was = rw l.segment_is at (r.were_begun l.place l.is l.at).1 in
    inr (l.is.value, was, λ b at. same_file refl refl number value (r.holds j b at)))
    (last_of (value_after start h j) j more)

-- ---- a history without one segment

without_none : (i : ℕ) (h : List Update) → updates_of i (without i h) ≡ 0
without_none i [] = refl
without_none i (u ∷ h) = grind (arith, nat_tests, without_none i h)

without_count : (i j : ℕ) (h : List Update) → j ≢ i → updates_of j (without i h) ≡ updates_of j h
without_count i j [] ne = refl
without_count i j (u ∷ h) ne = grind (arith, nat_tests, without_count i j h ne)

without_value : (i j : ℕ) (v : List ℕ) (h : List Update) → j ≢ i → last_value v j (without i h) ≡ last_value v j h
without_value i j v [] ne = refl
without_value i j v (u ∷ h) ne = grind (arith, nat_tests, without_value i j v h ne, without_value i j u.value h ne)

pub without-append : (i : ℕ) (a b : List Update) → without i (a ++ b) ≡ without i a ++ without i b
without-append i [] b = refl
without-append i (u ∷ a) b = grind (arith, nat_tests, without-append i a b)

-- the other segments are after it as they were
pub number_without : (start : Start) (i k j : ℕ) (v : List ℕ) (h : List Update) → j ≢ i
    → number_after start h j ≡ number_after (from_there start i k v) (without i h) j
number_without start i k j v h ne = grind (arith, nat_tests, without_count)

pub value_without : (start : Start) (i k j : ℕ) (v : List ℕ) (h : List Update) → j ≢ i
    → value_after start h j ≡ value_after (from_there start i k v) (without i h) j
value_without start i k j v h ne = grind (arith, nat_tests, without_value)

pub joined_without : (i : ℕ) (moments : List (List Update)) (h : List Update) → IsJoined moments h
    → IsJoined (map (without i) moments) (without i h)
joined_without i [] h joined = ap (without i) joined
joined_without i (moment ∷ moments) h (before, more, joined, once, is) = (
  without i before,
  without i more,
  joined_without i moments before joined,
  λ j. grind (arith, cases_eq j i, without_count, without_none, once j),
  ap (without i) is ∙ simp without-append,
)

-- ---- one segment apart

-- after h from one start, and after k from another, all segments but i have the same number and value
abbrev SameBut : ℕ → Start → List Update → Start → List Update → Type 0
SameBut i start h next k = (j : ℕ) → j ≢ i
    → (number_after start h j ≡ number_after next k j) × (value_after start h j ≡ value_after next k j)

pushed : (i : ℕ) (start : Start) (h : List Update) (v : List ℕ) → SameBut i start h start (h ++ update i v ∷ [])
pushed i start h v j ne =
    let other : i ≢ j = λ e. ne (sym e) in
    (sym (number-push_other start h (update i v) j other), sym (value-push_other start h (update i v) j other))

-- ---- an update that may have been begun

-- p at place i, and all others of the list as they were
put_at : {A : Type 0} → ℕ → A → List A → List A
put_at i p xs = slice_set (xs ++ replicate (i + 1) p) i p

put_here : {A : Type 0} (i : ℕ) (p : A) (xs : List A) → slice_get (put_at i p xs) i ≡ Some p
unfolding put_at
put_here i p xs = get-set_same (xs ++ replicate (i + 1) p) i p (simp (length-append, length-replicate) (omega arith))

put_other : {A : Type 0} (i j : ℕ) (p q : A) (xs : List A) → j ≢ i → slice_get xs j ≡ Some q
    → slice_get (put_at i p xs) j ≡ Some q
unfolding put_at
put_other i j p q xs ne at = get-set_other (xs ++ replicate (i + 1) p) i j p ne
    ∙ get-append_left xs (replicate (i + 1) p) j (slice_get_within xs j q at) ∙ at

-- ---- one file that a command worked on

-- a store of v on this device, and nothing else of its writer
abbrev begun_on : {D : Type 0} → D → List ℕ → Place D
begun_on d v = in_store (record {
  segment = record { device = d; index = 0; count = 0; number = 0; value = []; begun = None; spare_open = false };
  seat = record {
    table = no_registers;
    plan = record { scanners = 0; looks = 0; block_words = 0; start = [] };
    seen = [];
    low = 0;
    high = 0;
    pins = [];
    records = [];
    left = 0;
    look_records = [];
    phase = Storing;
  };
}) v d

module _ {D : Type 0} (disk : Disk.Ghosts D) (n : ℕ) (start : Start) (h : List Update) (crashed : List (Place D))
    (devices nexts : List D) (kept : KeepMemory disk n start h (Begun crashed) devices) (i : ℕ) where
  module _ (leaves : List ℕ → Type 0) (works : Works disk i leaves devices nexts) where
    abbrev own : (d : D) × (slice_get devices i ≡ Some d)
    own = element devices i works.there

    abbrev now : List ℕ
    now = (disk.device own.0).bytes

    abbrev all_now : List (List ℕ)
    all_now = map (λ (d : D). (disk.device d).bytes) devices

    recovered_now : IsRecovered n start h (Begun crashed) all_now
    recovered_now = kept_now disk n start h (Begun crashed) devices kept

    count : length devices ≡ n
    count = sym (length-map devices (λ (d : D). (disk.device d).bytes)) ∙ recovered_now.size

    -- what a crash leaves of the other files, beside the bytes that this file has now
    left_before : (files : List (List ℕ)) → Pairs (λ _ e b. MayLeave (disk.device e) b) nexts files
        → Pairs (λ _ d b. MayLeave (disk.device d) b) devices (slice_set files i now)
    left_before files left = record {
      size = works.others.size ∙ left.size ∙ sym (length-set files i now);
      each = λ j d b ed eb. ⊎_elim
          (λ same.
          let low : i < length files =
          let there = works.there in let one = works.others.size in let two = left.size in omega arith in
          let is : own.0 ≡ d = cc own.1 in
          let bytes : now ≡ b = cc (get-set_same files i now low) in
          rw (← is, ← bytes) (record { size = refl; elsewhere = λ p _. refl }))
          (λ other.
          let e = partner _ devices nexts j d works.others ed in
          e.2 other b (left.each j e.0 b e.1 (sym (get-set_other files i j now other) ∙ eb))) (cases_eq j i);
    }

    -- from a history that has the same of the other segments, and a start, the memory is kept
    goes_on : (next : Start) (k : List Update) (began : ℕ → List ℕ → Type 0) → SameBut i start h next k
        → ((j : ℕ) (v : List ℕ) → j ≢ i → Begun crashed j v → began j v)
        → ((b : List ℕ) → leaves b → Found next k began (λ _ l w. IsFileOf i n l w b) i)
        → KeepMemory disk n next k began nexts
    goes_on next k began same begun mine files left =
        let before = slice_set files i now in
        let r = kept before (left_before files left) in
        let size = sym left.size ∙ sym works.others.size ∙ count in
        all_found n next k began files size (λ j low. ⊎_elim
        (λ own_file. rw own_file (
        let e = element nexts i (let there = works.there in let both = works.others.size in omega arith) in
        let b = partner _ nexts files i e.0 left e.1 in
        let here : (l : ℕ) (w : List ℕ) → IsFileOf i n l w b.0 → FileAt n files i l w =
        λ l w is x at. rw (same_Some b.0 x (sym b.1 ∙ at)) at is in
        ⊎_elim (λ is. inl (here _ _ is)) (λ is. inr (is.0, is.1, here _ _ is.2))
        (mine b.0 (works.own e.0 b.0 e.1 b.2))))
        (λ other.
        let was = get-set_other files i j now other in
        let to = same j other in ⊎_elim
        (λ is. inl (λ b at. same_file refl refl to.0 to.1 (is b (was ∙ at))))
        (λ is. inr (is.0, begun j is.0 other is.1, λ b at. rw to.0 at (is.2 b (was ∙ at))))
        (found n start h (Begun crashed) before r j)) (cases_eq j i))

    -- ---- the update that had been begun, if the file holds it

    module _ (c : ℕ) (u : List ℕ) (held : Held disk i c u devices) where
      -- the history up to what the file held
      record Met : Type 0 where
        more : List Update
        once : (j : ℕ) → updates_of j more ≤ 1
        number_is : number_after start (h ++ more) i ≡ c
        value_is : value_after start (h ++ more) i ≡ u
        others : SameBut i start h start (h ++ more)

      holds_now : (k : ℕ) (v : List ℕ) → FileAt n all_now i k v → (k ≡ c) × (v ≡ u)
      holds_now k v is = holds_same now k c v u
          (is now (get_map (λ (d : D). (disk.device d).bytes) devices i own.0 own.1)).holds (held own.0 own.1)

      few : (j : ℕ) (v : List ℕ) → updates_of j (update i v ∷ []) ≤ 1
      few j v = grind (arith, nat_tests)

      met : Met
      met = ⊎_elim
          (λ here.
          let is = holds_now _ _ here in record {
            more = [];
            once = λ j. omega arith;
            number_is = rw append-nil is.0;
            value_is = rw append-nil is.1;
            others = λ j ne. rw append-nil (refl, refl);
          })
          (λ begun.
          let is = holds_now _ _ begun.2 in
          let v = begun.0 in record {
            more = update i v ∷ [];
            once = λ j. few j v;
            number_is = number-push start h (update i v) ∙ is.0;
            value_is = value-push start h (update i v) ∙ is.1;
            others = pushed i start h v;
          })
          (found n start h (Begun crashed) all_now recovered_now i)

  -- ---- what is kept, command by command

  module _ (c : ℕ) (u v : List ℕ) (held : Held disk i c u devices) where
    -- the history with the update that was stored
    pub record IsStored : Type 0 where
      pub more : List Update
      pub once : (j : ℕ) → updates_of j more ≤ 1
      pub number_is : number_after start ((h ++ more) ++ update i v ∷ []) i ≡ c + 1
      pub keeps : KeepMemory disk n start ((h ++ more) ++ update i v ∷ []) (Begun crashed) nexts

    pub stored : Works disk i (IsFileOf i n (c + 1) v) devices nexts → IsStored
    stored works =
        let leaves = IsFileOf i n (c + 1) v in
        let m = met leaves works c u held in
        let before = h ++ m.more in
        let number : number_after start (before ++ update i v ∷ []) i ≡ c + 1 =
        rw (number-push start before (update i v), m.number_is) in
        record {
          more = m.more;
          once = m.once;
          number_is = number;
          keeps = goes_on leaves works start (before ++ update i v ∷ []) (Begun crashed)
              (λ j ne. let a = m.others j ne in let b = pushed i start before v j ne in (a.0 ∙ b.0, a.1 ∙ b.1))
              (λ j w ne was. was)
              (λ b is. inl (same_file refl refl (sym number) (sym (value-push start before (update i v))) is));
        }

    -- the history without it, and it may have been begun
    pub record IsCutOff : Type 0 where
      pub more : List Update
      pub once : (j : ℕ) → updates_of j more ≤ 1
      pub begun : List (Place D)
      pub keeps : KeepMemory disk n start (h ++ more) (Begun begun) nexts

    pub cut_off : Works disk i (IsEither i n c u v) devices nexts → IsCutOff
    cut_off works =
        let leaves = IsEither i n c u v in
        let m = met leaves works c u held in
        let d = own leaves works in
        let p = begun_on d.0 v in
        record {
          more = m.more;
          once = m.once;
          begun = put_at i p crashed;
          keeps = goes_on leaves works start (h ++ m.more) (Begun (put_at i p crashed)) m.others
              (λ j w ne was. (was.0, put_other i j p was.0 crashed ne was.1, was.2))
              (λ b. ⊎_elim (λ is. inl (rw (m.number_is, m.value_is) is))
              (λ is. inr (v, (p, put_here i p crashed, inl refl), rw m.number_is is)));
        }

  -- the file was made anew
  pub remade : (k : ℕ) (v : List ℕ) → Works disk i (IsFileOf i n k v) devices nexts
      → KeepMemory disk n (from_there start i k v) (without i h) (Begun crashed) nexts
  remade k v works =
      let next = from_there start i k v in
      let none = without_none i h in
      let there : next i ≡ (k, v) = grind (arith, nat_tests) in
      let number : k ≡ number_after next (without i h) i = grind (arith, none, there) in
      let value : v ≡ value_after next (without i h) i =
      sym (last_none (next i).1 i (without i h) none ∙ ap (λ (x : ℕ × List ℕ). x.1) there) in
      goes_on (IsFileOf i n k v) works next (without i h) (Begun crashed)
      (λ j ne. (number_without start i k j v h ne, value_without start i k j v h ne))
      (λ j w ne was. was) (λ b is. inl (same_file refl refl number value is))
