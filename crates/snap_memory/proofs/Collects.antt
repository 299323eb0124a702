-- What a scan's looks show of what its seat has seen. A moment is a length of that list.
use Rattle.std.proofs.{Math.Seq.take-append-add, Math.Seq.take-append_seam, Math.Seq.take-length, lemmas.Bool.cases_eq}
use Rattle.std.proofs.lemmas.List.{take-append-drop, append-nil, length-set, length_push, length-replicate}
use Rattle.std.proofs.lemmas.{List.length-append, List.get_or-set_same, List.get_or-set_other, Option.same_Some}
use Rattle.std.proofs.Common.{replicate, Some, slice_index, slice_get, slice_set, refl, ap, sym, ◌∙◌, arith, ◌≡◌, ℕ, []}
use Rattle.std.proofs.Common.{append_assoc, ◌+◌, ◌-◌, ◌*◌, ◌^◌, ◌<◌, ◌≤◌, inl, inr, List, ◌∷◌, ◌++◌, length, take, drop}
use Rattle.snap_history.specs.History.{Update, Start, IsBeginning, number_after}
use Rattle.snap_history.proofs.Beginnings.{beginning-self, beginning-trans, take-beginning}
use Rattle.snap_history.proofs.{Lists.get-set_same, Lists.get-set_other, Lists.get-replicate, Moments.number-le}
use Rattle.snap_scan.specs.Looks.{most_looks, IsClean, IsBorrow, IsTurn, IsNoFall}
use Rattle.snap_scan.specs.Sets.{Names, named, size, IsAt}
use Rattle.snap_scan.proofs.Sets.{at_named, named_at, at_once, at_within, at_is, at_below, names_below}
use Rattle.snap_scan.specs.Collects.{Numbers, Entries, IsRising, Collects, IsMoment, IsThen}
use Rattle.snap_scan.proofs.Collects.{Collects-none, Collects-same, Collects-push, no_fall, first_low, clean_moment}
use Rattle.snap_register.specs.Seat.{Known, looked, number_in, Grows, IsBelow, Looks}
use Rattle.snap_register.specs.{declared.plan.Plan.Plan, History.starts, Rule.segments}
use Rattle.snap_memory.specs.Scans.{BeginsFresh, IsCleanScan, IsBorrowedScan, TakesLooksOf}

-- A list and its moments:

pub take-begins : (a h : List Update) (p : ℕ) → IsBeginning a h → length a ≤ p → IsBeginning a (take p h)
take-begins a h p b l =
    let e : p ≡ length a + (p - length a) = omega arith in (
      take (p - length a) b.0,
      ap (take p) b.1 ∙ ap (λ n. take n (a ++ b.0)) e ∙ take-append-add a b.0 (p - length a),
    )

pub take-within : (h : List Update) (p : ℕ) → IsBeginning (take p h) h
take-within h p = (drop p h, sym (take-append-drop p h))

pub beginning-take : (part h : List Update) → IsBeginning part h → take (length part) h ≡ part
beginning-take part h b = ap (take (length part)) b.1 ∙ take-append_seam part b.0

begins-length : (a h : List Update) → IsBeginning a h → length a ≤ length h
begins-length a h b = omega (arith, ap length b.1, length-append a b.0)

-- what was seen at the first of these looks; before it, what was seen before the scan
abbrev pub first_of : List Update → List (List Update) → List Update
first_of h [] = h
first_of h (x ∷ xs) = x

first_stays : (h c : List Update) (xs : List (List Update)) → 0 < length xs → first_of h (xs ++ c ∷ []) ≡ first_of h xs
first_stays h c [] l = absurd (omega arith)
first_stays h c (x ∷ xs) l = refl

first_opens : (h c : List Update) (xs : List (List Update)) → IsBeginning h (first_of h xs)
    → IsBeginning h c → IsBeginning h (first_of h (xs ++ c ∷ []))
first_opens h c [] old new = new
first_opens h c (x ∷ xs) old new = old

first_within : (h c : List Update) (xs : List (List Update)) → IsBeginning (first_of h xs) c
    → IsBeginning (first_of h (xs ++ c ∷ [])) c
first_within h c [] b = beginning-self c
first_within h c (x ∷ xs) b = b

begins_fresh : (a b : Known) (xs : List (List Update)) (part : List Update) → 0 < length xs
    → b.look_records ≡ a.look_records ++ xs → IsBeginning (first_of a.seen xs) part → BeginsFresh a b part
begins_fresh a b [] part l is begins = absurd (omega arith)
begins_fresh a b (x ∷ xs) part l is begins = grind arith

-- a scan's looks are also valid for an earlier begin, and before the first look for any begin
collects_from : {n : ℕ} {number : Numbers} {entry : Entries (List ℕ)} {f f' e : ℕ} {told : List ℕ}
    {latest : List (List ℕ)} → (0 < length told → f' ≤ f) → Collects (List ℕ) n number entry f e told latest
    → Collects (List ℕ) n number entry f' e told latest
collects_from late c = record {
  moment = c.moment;
  after = λ t l. omega (arith, c.after t l, late (omega arith));
  until = c.until;
  order = c.order;
  numbers = c.numbers;
  entries = c.entries;
}

-- the number of the segment at each place of a set at each moment, alone and as an entry
abbrev pub number_at : ℕ → Start → List Update → Numbers
number_at set start h t p = number_after start (take t h) (slice_index (named set) p)

abbrev pub entry_at : ℕ → Start → List Update → Entries (List ℕ)
entry_at set start h t p = number_at set start h t p ∷ []

rising : (set : ℕ) (start : Start) (h : List Update) → IsRising (number_at set start h)
rising set start h p s t l = number-le start h (slice_index (named set) p) s t l

-- the numbers and values that a scan of the set found since moment `from` of the history
abbrev pub HasToldFrom : ℕ → Start → List Update → ℕ → List ℕ → List (List ℕ) → Type 0
HasToldFrom set start h from told latest =
    Collects (List ℕ) (size set) (number_at set start h) (entry_at set start h) from (length h) told latest

-- a scan of the set in progress: it began when the seat knew a, and the seat now knows b
pub record Gathers (a b : Known) (set : ℕ) (told numbers : List ℕ) : Type 0 where
  pub among : set < 2 ^ segments a.plan
  pub short : set < 2 ^ 16
  pub some : 0 < size set
  pub wide : length numbers ≡ 16
  pub grows : Grows a b
  pub look_records : List (List Update)
  pub sights_are : b.look_records ≡ a.look_records ++ look_records
  pub all_told : length look_records ≡ length told
  pub opens : IsBeginning a.seen (first_of a.seen look_records)
  pub within : IsBeginning (first_of a.seen look_records) b.seen
  pub latest : List (List ℕ)
  pub long : length latest ≡ size set
  pub collects : HasToldFrom set (starts a.plan) b.seen (length (first_of a.seen look_records)) told latest
  pub last_looks : (p j k : ℕ) → IsAt set p j → slice_get latest p ≡ Some (k ∷ [])
      → (looked b j ≡ Some k) × (slice_index numbers j ≡ k)
  pub left : b.left + length told ≡ a.left
  pub bound : length told ≤ most_looks (size set)
  pub below : 0 < length told → IsBelow b

pub grows_self : (a : Known) → Grows a a
grows_self a = grind (arith, beginning-self)

pub grows_more : (a b c : Known) → Grows a b → Grows b c → Grows a c
grows_more a b c f g = record {
  table = g.table ∙ f.table;
  plan = g.plan ∙ f.plan;
  low = g.low ∙ f.low;
  high = g.high ∙ f.high;
  later = beginning-trans a.seen b.seen c.seen f.later g.later;
  own = λ i l h. (rw f.plan at (g.own i (omega (arith, f.low)) (omega (arith, f.high)))) ∙ f.own i l h;
  phase = g.phase ∙ f.phase;
}

pub Gathers-none : (a : Known) (set : ℕ) (numbers : List ℕ) → set < 2 ^ segments a.plan
    → set < 2 ^ 16 → 0 < size set → length numbers ≡ 16 → Gathers a a set [] numbers
Gathers-none a set numbers among short some wide = record {
  among = among;
  short = short;
  some = some;
  wide = wide;
  grows = grows_self a;
  look_records = [];
  sights_are = sym (append-nil a.look_records);
  all_told = refl;
  opens = beginning-self a.seen;
  within = beginning-self a.seen;
  latest = replicate (size set) [];
  long = length-replicate (size set) [];
  collects = Collects-none _ _ _ _ _ _ _;
  last_looks = λ p j k at e. absurd (cc (get-replicate (size set) p [] (k ∷ []) e));
  left = omega arith;
  bound = omega arith;
  below = λ l. absurd (omega arith);
}

-- one look more
module _ (a b c : Known) (set : ℕ) (told numbers : List ℕ) (j k : ℕ)
    (g : Gathers a b set told numbers) (place : ℕ) (at : IsAt set place j)
    (turn : IsTurn (size set) told place) (later : Grows b c) (found : k ≡ number_in c c.seen j) where
  abbrev look_records : List (List Update)
  look_records = g.look_records ++ c.seen ∷ []

  abbrev first : List Update
  first = first_of a.seen look_records

  abbrev number : Numbers
  number = number_at set (starts a.plan) c.seen

  seen_within : IsBeginning first c.seen
  seen_within = first_within a.seen c.seen g.look_records
      (beginning-trans (first_of a.seen g.look_records) b.seen c.seen g.within later.later)

  number_same : (t p : ℕ) → t ≤ length b.seen → number t p ≡ number_at set (starts a.plan) b.seen t p
  number_same t p l = grind (arith, take-beginning)

  -- the number found is that of the moment of the look
  now : k ≡ number (length c.seen) place
  now = grind (arith, take-length, at_is)

  -- after the first look, the first stays the same
  grown : Collects (List ℕ) (size set) number (entry_at set (starts a.plan) c.seen) (length first)
      (length b.seen) told g.latest
  grown = grind (arith, collects_from, first_stays, Collects-same, number_same)

  -- the number found isn't below the last one found for the segment
  pub told_fits : (p : ℕ) → IsAt set p j → IsNoFall (size set) told p k
  told_fits p other = rw (at_once set p place j other at, now)
      (no_fall _ _ _ _ _ _ _ _ grown (rising set (starts a.plan) c.seen) (length c.seen) place
      (begins-length b.seen c.seen later.later) turn.0)

  module _ (bound : length told < most_looks (size set)) (looks : Looks b c j k)
      (sighted : c.look_records ≡ b.look_records ++ c.seen ∷ []) (left : c.left + 1 ≡ b.left) (below : IsBelow c) where
    last_looks : (q i v : ℕ) → IsAt set q i → slice_get (slice_set g.latest place (k ∷ [])) q ≡ Some (v ∷ [])
        → (looked c i ≡ Some v) × (slice_index (slice_set numbers j k) i ≡ v)
    last_looks q i v here e = elim (cases_eq q place) [
      | inl same ↦ (
          let is_j : i ≡ j = same_Some i j (sym (rw same at here) ∙ at) in
          let one : k ∷ [] ≡ v ∷ [] = same_Some (k ∷ []) (v ∷ [])
          (sym (get-set_same g.latest place (k ∷ []) (omega (arith, turn.0, g.long))) ∙ (rw same at e)) in
          let is : k ≡ v = cc one in
          let wide : j < length numbers = omega (arith, g.wide, (at_named set place j at).0) in
          rw is_j (looks.here ∙ ap Some is, get_or-set_same numbers j k 0 wide ∙ is))
      | inr other ↦ (
          let apart : i ≡ j → ⊥ = λ same. other (at_once set q place j (here ∙ ap (λ z. Some z) same) at) in
          let old = g.last_looks q i v here (sym (get-set_other g.latest place q (k ∷ []) other) ∙ e) in
          (looks.others i apart ∙ old.0, get_or-set_other numbers j i k 0 apart ∙ old.1))
    ]

    pub Gathers-look : Gathers a c set (told ++ k ∷ []) (slice_set numbers j k)
    Gathers-look = record {
      among = g.among;
      short = g.short;
      some = g.some;
      wide = length-set numbers j k ∙ g.wide;
      grows = grows_more a b c g.grows later;
      look_records = look_records;
      sights_are = sighted ∙ ap (λ (l : List (List Update)). l ++ c.seen ∷ []) g.sights_are
          ∙ append_assoc a.look_records g.look_records (c.seen ∷ []);
      all_told = omega (arith, length_push g.look_records c.seen, g.all_told, length_push told k);
      opens = first_opens a.seen c.seen g.look_records g.opens
          (beginning-trans a.seen b.seen c.seen g.grows.later later.later);
      within = seen_within;
      latest = slice_set g.latest place (k ∷ []);
      long = length-set g.latest place (k ∷ []) ∙ g.long;
      collects = rw now (Collects-push _ _ _ _ _ _ _ _ grown (length c.seen) place
          (begins-length b.seen c.seen later.later) turn (begins-length first c.seen seen_within) g.long);
      last_looks = last_looks;
      left = omega (arith, length_push told k, g.left);
      bound = omega (arith, length_push told k);
      below = λ _. below;
    }

-- once the numbers decide the scan
module _ (a b : Known) (set : ℕ) (told numbers : List ℕ) (g : Gathers a b set told numbers) where
  abbrev first_seen : List Update
  first_seen = first_of a.seen g.look_records

  abbrev seen_at : Numbers
  seen_at = number_at set (starts a.plan) b.seen

  begins_all : (part : List Update) → IsBeginning first_seen part → IsBeginning a.seen part
  begins_all part begins = beginning-trans a.seen first_seen part g.opens begins

  is_fresh : (part : List Update) → 0 < length told → IsBeginning first_seen part → BeginsFresh a b part
  is_fresh part some begins = grind (arith, begins_fresh)

  -- so the scan used up looks, and no more than a scan might
  pub takes_looks : 0 < length told → TakesLooksOf (size set) a b
  takes_looks l = omega (arith, g.left, g.bound)

  pub clean_some : IsClean (size set) told → 0 < length told
  clean_some clean = grind (arith, g.some, clean.rounds.1)

  pub borrow_some : (j : ℕ) → IsBorrow (size set) told j → 0 < length told
  borrow_some j borrowed = omega (arith, borrowed.last.1)

  from_start : (h : List Update) (i : ℕ) → number_in b h i ≡ number_after (starts a.plan) h i
  from_start h i = ap (λ (p : Plan). number_after (starts p) h i) g.grows.plan

  module _ (clean : IsClean (size set) told) (not_borrow : (j : ℕ) → IsBorrow (size set) told j → ⊥) where
    moment : (p : ℕ) × IsMoment (size set) seen_at (length first_seen) (length b.seen) told p
        × IsThen (List ℕ) (size set) (entry_at set (starts a.plan) b.seen) p g.latest
    moment = clean_moment _ _ _ _ _ _ _ _ g.collects (rising set (starts a.plan) b.seen)
        (λ i t u l e. ap (λ v. v ∷ []) e) g.some clean not_borrow

    begins_first : IsBeginning first_seen (take moment.0 b.seen)
    begins_first = take-begins first_seen b.seen moment.0 g.within moment.1.after

    -- the last look of a named segment found the number that it had at that moment
    last_at : (i : ℕ) → i < segments b.plan → Names set i → (looked b i ≡ Some (number_in b (take moment.0 b.seen) i))
        × (slice_index numbers i ≡ number_in b (take moment.0 b.seen) i)
    last_at i l named =
        let place = named_at set i (names_below set 16 (omega arith) g.short i named) named in
        let last = g.last_looks place.0 i _ place.1 (moment.2 place.0 (at_within set place.0 i place.1)) in
        let is : seen_at moment.0 place.0 ≡ number_in b (take moment.0 b.seen) i =
        ap (number_after (starts a.plan) (take moment.0 b.seen)) (at_is set place.0 i place.1)
        ∙ sym (from_start (take moment.0 b.seen) i) in
        (last.0 ∙ ap Some is, last.1 ∙ is)

    pub clean_scan : IsCleanScan set a b
    clean_scan = record {
      part = take moment.0 b.seen;
      begins = begins_all (take moment.0 b.seen) begins_first;
      fresh = is_fresh (take moment.0 b.seen) (clean_some clean) begins_first;
      within = take-within b.seen moment.0;
      each = λ i l named. (last_at i l named).0;
    }

    pub numbers_are : (i : ℕ) → i < segments b.plan → Names set i → looked b i ≡ Some (slice_index numbers i)
    numbers_are i l named = let last = last_at i l named in last.0 ∙ ap Some (sym last.1)

  module _ (j place_of : ℕ) (at : IsAt set place_of j) (borrowed : IsBorrow (size set) told place_of) where
    abbrev m : ℕ
    m = borrowed.last.0

    abbrev last : ℕ
    last = slice_index told (length told - 1)

    ends_at : length told ≡ m * size set + place_of + 1
    ends_at = borrowed.last.1

    -- the number at the place is that of the segment
    of_segment : (t : ℕ) → seen_at t place_of ≡ number_after (starts a.plan) (take t b.seen) j
    of_segment t = ap (number_after (starts a.plan) (take t b.seen)) (at_is set place_of j at)

    told_last : last ≡ seen_at (g.collects.moment (m * size set + place_of)) place_of
    told_last = grind (arith, ends_at)

    looked_last : looked b j ≡ Some last
    looked_last = grind (arith, ends_at, told_last)

    -- the segment rose by two since the scan's first look
    rose : seen_at (length first_seen) place_of + 2 ≤ last
    rose =
        let low = first_low _ _ _ _ _ _ _ _ g.collects (rising set (starts a.plan) b.seen) place_of
        borrowed.segment (omega (arith, ends_at)) in
        omega (arith, borrowed.moved)

    -- so each list that lacks only its last update has all that there was at the first look
    inside : (part : List Update) → IsBeginning part b.seen
        → looked b j ≡ Some (number_in b part j + 1) → length first_seen ≤ length part
    inside part within before =
        let e : last ≡ number_in b part j + 1 = same_Some last (number_in b part j + 1) (sym looked_last ∙ before) in
        let f : number_in b part j ≡ seen_at (length part) place_of =
        from_start part j ∙ ap (λ h. number_after (starts a.plan) h j)
        (sym (beginning-take part b.seen within)) ∙ sym (of_segment (length part)) in
        grind (arith, rose, rising set (starts a.plan) b.seen place_of (length part) (length first_seen))

    begins_last : (part : List Update) → IsBeginning part b.seen
        → looked b j ≡ Some (number_in b part j + 1) → IsBeginning first_seen part
    begins_last part within before = rw (beginning-take part b.seen within)
        at (take-begins first_seen b.seen (length part) g.within (inside part within before))

    pub borrowed_scan : IsBorrowedScan a b j
    borrowed_scan = record {
      inside = rw g.grows.plan (at_below set (segments a.plan) place_of j g.among at);
      found = record {
        told = last;
        is = looked_last;
        above = rw g.grows.plan (omega (arith, rose, of_segment (length first_seen)));
      };
      begins = λ part within before. begins_all part (begins_last part within before);
      fresh = λ part within before. is_fresh part (borrow_some place_of borrowed) (begins_last part within before);
    }
