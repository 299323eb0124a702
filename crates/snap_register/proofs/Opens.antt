-- The words at the start keep the rule, and the first seat splits off the others.
use Rattle.std.proofs.Common.{◌≡◌, ℕ, zero, suc, ◌+◌, ◌-◌, ◌*◌, ◌<◌, ◌≤◌, List, [], ◌∷◌, ◌++◌, map, length}
use Rattle.std.proofs.Common.{get_or, refl, ap, sym, ◌∙◌, arith, length-append, suc-mul, mul-le-mul_right}
use Rattle.std.proofs.lemmas.List.{length-map, length-replicate, get_or_append_left, get_or-append-add}
use Rattle.std.proofs.lemmas.List.{get_or-append_right, get_or-replicate, get_or_past}
use Rattle.std.{proofs.lemmas.Bool.Decides.nat_tests, specs.Prelude.replicate, specs.List.flat_map}
use Rattle.atomic_table.specs.{Table.Me, Table.opening, Seated.TableId}
use Rattle.snap_register.specs.History.{no_start, start_at}
use Rattle.snap_register.specs.Rule.{segments, seats, buffers, width, given, cell, size, IsLegal, pins_of, Knows}
use Rattle.snap_register.specs.Rule.{Kept}
use Rattle.snap_register.specs.Setup.{first_view, first_pool, start_of, plan_with, unused, opening_words, IsReady}
use Rattle.snap_register.specs.declared.plan.UpdatePhase.TheVariants.{Shown}
use Rattle.snap_register.specs.Setup.{IsFirst}
use Rattle.snap_register.specs.Parts.{IsNewSeat, AreWriters, AreReaders}
use Rattle.snap_register.specs.{declared.plan.Opening.Opening, declared.plan.Plan.Plan, declared.plan.Start.Start}
use Rattle.snap_register.specs.{declared.plan.SeatView.SeatView, Seat.Known, Seat.known, Held.Readable}
use Rattle.snap_register.proofs.{Views.readable, Places.below_product}
use Rattle.snap_history.proofs.Lists.{get-push_at, get-push}
use mathlib.Core.Option.{some, some-ne-none}
use lib.ListN.{get_elem?}

fewer_looks : (l looks : ℕ) → 0 < l → (looks ≤ l * looks) × (l * looks - looks ≡ (l - 1) * looks)
fewer_looks zero looks any = absurd (omega arith)
fewer_looks (suc l) looks any = grind (arith, nat_tests, suc-mul)

legal_none : (p : Plan) → IsLegal p []
legal_none p a b e is = absurd (omega (arith, ap length is, length-append a (e ∷ b)))

-- zeros only
none_at : (n i : ℕ) → get_or {A = ℕ} (replicate n 0) i 0 ≡ 0
none_at n i = grind (arith, nat_tests, get_or_past, length-replicate, get_or-replicate)

module _ (S : Type 0) where
  pub enough : (words l : ℕ) (m : Me S SeatView) → IsFirst words l m → 0 < l
      → (m.0.plan.looks ≤ m.0.left) × (1 ≤ m.0.pin_quota)
  enough words l m f any = grind (arith, nat_tests, fewer_looks)

  pub bare : (words l : ℕ) (m : Me S SeatView) → IsFirst words l m → (i : ℕ) → get_or m.0.pins i 0 ≡ 0
  bare words l m f i = ap (λ (z : List ℕ). get_or z i 0) f.pins_are ∙ none_at (segments m.0.plan) i

  -- after a seat was split off that takes the segments below `low`
  pub first_after : (words words' l k low : ℕ) (m n : Me S SeatView) → IsFirst words l m → k + 1 ≡ l
      → words' ≡ words → n ≡ (
        record m.0 {
          low = low;
          pin_quota = m.0.pin_quota - 1;
          left = m.0.left - m.0.plan.looks;
        },
        m.1,
      ) → IsFirst words' k n
  first_after words words' l k low m n f e same is = grind (arith, nat_tests, fewer_looks)

pub writers_more : (z : TableId) (p : Plan) (xs : List Known) (a : Known) → AreWriters z p xs
    → IsNewSeat z p (length xs) (length xs + 1) a → AreWriters z p (xs ++ a ∷ [])
writers_more z p xs a = get-push_at (λ i. IsNewSeat z p i (i + 1)) xs a

pub readers_more : (z : TableId) (p : Plan) (xs : List Known) (a : Known) → AreReaders z p xs
    → IsNewSeat z p 0 0 a → AreReaders z p (xs ++ a ∷ [])
readers_more z p xs a = get-push (IsNewSeat z p 0 0) xs a

pub new_seat : (S : Type 0) (z : TableId) (p : Plan) (low high : ℕ) (a : Known) (t : TableId)
    (m n : Me S SeatView) → m ≡ n → a ≡ known t m.0 → t ≡ z → n.0.plan ≡ p → n.0.seen ≡ []
    → n.0.low ≡ low → n.0.high ≡ high → n.0.left ≡ n.0.plan.looks → n.0.phase ≡ Shown → IsNewSeat z p low high a
new_seat S z p low high a t m n me is te pe se le he fe ph = grind (arith, nat_tests)

module _ {X : Type 0} (f : X → List ℕ) (d : X) (b : ℕ) where
  even_length : (xs : List X) → ((i : ℕ) → i < length xs → length (f (get_or xs i d)) ≡ b)
      → length (flat_map f xs) ≡ length xs * b
  even_length [] even = omega arith
  even_length (x ∷ xs) even =
      grind (arith, even 0, even_length xs (λ i li. even (suc i) (omega arith)), length-append (f x) (flat_map f xs))

  even_get : (xs : List X) (i j : ℕ) → ((i : ℕ) → i < length xs → length (f (get_or xs i d)) ≡ b) → i < length xs
      → j < b → get_or (flat_map f xs) (i * b + j) 0 ≡ get_or (f (get_or xs i d)) j 0
  even_get [] i j even li lj = absurd (omega arith)
  even_get (x ∷ xs) zero j even li lj = grind (arith, even 0, get_or_append_left)
  even_get (x ∷ xs) (suc i) j even li lj = grind (
    arith,
    even 0,
    get_or-append-add (f x) (flat_map f xs) (i * b + j) 0,
    even_get xs i j (λ k lk. even (suc k) (omega arith)) (omega arith) lj,
  )

module _ (p : Plan) (ready : IsReady p) where
  abbrev front : ℕ
  front = segments p + segments p * buffers p

  abbrev zeros : List ℕ
  zeros = replicate front 0

  abbrev piece : Start → List ℕ
  piece s = s.words ++ replicate (unused p) 0

  abbrev block : ℕ
  block = buffers p * width p

  even : (i : ℕ) → i < length p.start → length (piece (get_or p.start i no_start)) ≡ block
  even i li = length-append (start_at p i).words (replicate (unused p) 0)
      ∙ omega (arith, (ready.each i li).0.0, length-replicate {A = ℕ} (unused p) 0)

  count_zeros : length zeros ≡ front
  count_zeros = length-replicate front 0

  pub wide : length (opening_words p) ≡ size p
  wide = length-append zeros (flat_map piece p.start)
      ∙ omega (arith, count_zeros, even_length piece no_start block p.start even)

  zero_at : (i : ℕ) → i < front → get_or (opening_words p) i 0 ≡ 0
  zero_at i li = grind (arith, nat_tests, get_or_append_left, count_zeros, get_or-replicate)

  zero_given : (i b : ℕ) → i < segments p → b < buffers p → get_or (opening_words p) (given p i b) 0 ≡ 0
  zero_given i b li lb = zero_at (given p i b) (omega (arith, below_product i (segments p) (buffers p) b li lb))

  record_at : (i q : ℕ) → i < segments p → q < width p
      → get_or (opening_words p) (cell p i 0 q) 0 ≡ get_or (start_at p i).words q 0
  record_at i q li lq =
      let words : List ℕ = (start_at p i).words in
      let long : length words ≡ p.block_words = (ready.each i li).0.0 in
      let some : 1 ≤ buffers p = omega arith in
      let in_block : q < block = omega (arith, mul-le-mul_right (width p) some) in
      grind (
        arith,
        count_zeros,
        get_or-append-add zeros (flat_map piece p.start) (i * block + q) 0,
        even_get piece no_start block p.start i q even li in_block,
        get_or-append_right words (replicate (unused p) 0) (length words) q 0 refl,
        get_or-replicate {A = ℕ} (unused p) (q - length words) 0 0,
        get_or_past words q 0,
        get_or_append_left words (replicate (unused p) 0) 0 q,
      )

  no_pin : (i : ℕ) → get_or (first_view p).pins i 0 ≡ 0
  no_pin = none_at (segments p)

  none_counted : (b : ℕ) → pins_of (first_pool p) 0 b ≡ 0
  none_counted b = let z = none_at (buffers p) b in
      grind (arith, nat_tests)

  seated : (j : ℕ) (v : SeatView) → get_elem? (first_view p ∷ []) j ≡ some v
      → Knows p [] (opening_words p) (λ _. 0) (λ _. first_pool p) j v
  seated zero v e = grind (arith, nat_tests, no_pin)
  seated (suc j) v e = absurd (some-ne-none v (sym e))

  pub opens : (S : Type 0) → Kept {S = S} p (opening (opening_words p) [] (first_view p))
  opens S = record {
    history = [];
    writer = λ _. 0;
    pools = λ _. first_pool p;
    pinned = λ _. 0;
    wide = wide;
    shares = omega arith;
    few = ready.few;
    legal = legal_none p;
    registers = λ i li. grind (
      arith,
      nat_tests,
      length-replicate {A = ℕ},
      none_counted,
      none_at (buffers p),
      zero_given i,
      no_pin i,
      zero_at i,
      record_at i,
      ready.each i li,
      ready.looks,
    );
    each_seat = seated;
  }

pieces_of : (k : ℕ) (xs : List Opening) → flat_map (λ (x : Opening). x.words.items ++ replicate k 0) xs
    ≡ flat_map (λ (s : Start). s.words ++ replicate k 0) (map start_of xs)
pieces_of k [] = refl
pieces_of k (x ∷ xs) = λ i. (x.words.items ++ replicate k 0) ++ pieces_of k xs i

pub count_of : (xs : List Opening) → length xs ≡ length (map start_of xs)
count_of xs = sym (length-map xs start_of)

pub opening_words_are : (n scanners looks block_words : ℕ) (xs : List Opening) → n ≡ length xs
    → replicate (n + n * (n + scanners + 2)) 0 ++ flat_map (λ (x : Opening). x.words.items
    ++ replicate (n * block_words + (n + scanners + 1) * ((n + 1) * block_words)) 0) xs
    ≡ opening_words (plan_with scanners looks block_words xs)
opening_words_are n scanners looks block_words xs e =
    let p : Plan = plan_with scanners looks block_words xs in
    let c : n ≡ segments p = e ∙ count_of xs in
    (λ i. replicate (c i + c i * (c i + scanners + 2)) 0
    ++ flat_map (λ (x : Opening). x.words.items
    ++ replicate (c i * block_words + (c i + scanners + 1) * ((c i + 1) * block_words)) 0) xs)
    ∙ (λ i. replicate (segments p + segments p * buffers p) 0 ++ pieces_of (unused p) xs i)

pub base_of : (xs : List Opening) (i : ℕ) → i < length xs
    → get_or (map (λ (x : Opening). x.number) xs) i 0 ≡ (get_or (map start_of xs) i no_start).number
base_of [] i li = absurd (omega arith)
base_of (x ∷ xs) zero li = refl
base_of (x ∷ xs) (suc i) li = base_of xs i (omega arith)

-- at the start a seat may read each record
start_readable : (p : Plan) → IsReady p → (i : ℕ) → i < segments p
    → Readable p [] i (get_or (replicate (segments p) 0) i 0)
start_readable p ready i li = grind (arith, nat_tests, none_at, readable, legal_none)

pub first_is : (S : Type 0) (p : Plan) (words : ℕ) (m : Me S SeatView) → IsReady p → words ≡ size p
    → m ≡ (first_view p, []) → IsFirst words (seats m.0.plan) m
first_is S p words m ready e is = rw is (search (start_readable p ready))
