-- The rule of the registers' words, and the result of each step. Word i is the current word of register i: its buffer's
-- index times 2^56, plus the pins on it. After these words come the given-back counts, then the buffers.
use Rattle.std.specs.Prelude.{◌≡◌, ℕ, ◌+◌, ◌-◌, ◌*◌, ◌/◌, ◌^◌, ◌<◌, ◌≤◌, ◌==◌, ltb, cond, List, [], ◌∷◌, ◌++◌, length}
use Rattle.std.specs.Prelude.{slice_index, slice_set, take, true, false}
use Rattle.atomic_table.specs.Table.{State, Me, Step}
use Rattle.snap_history.specs.Limits.{IsNumber}
use Rattle.snap_register.specs.History.{entry, look_record, only, count, number, record_words, memory}
use Rattle.snap_register.specs.Words.{value_at, piece, IsRecord}
use Rattle.snap_register.specs.declared.plan.{Entry.Entry, Plan.Plan, BufferPool.BufferPool, SeatView.SeatView}
use Rattle.snap_register.specs.declared.plan.UpdatePhase.TheVariants.{Shown, Storing, Stored}
use mathlib.Core.Option.{some}
use mathlib.Core.List.{IsPrefix}
use lib.ListN.{get_elem?}

abbrev pub segments : Plan → ℕ
segments p = length p.start

abbrev pub seats : Plan → ℕ
seats p = segments p + p.scanners

abbrev pub buffers : Plan → ℕ
buffers p = segments p + p.scanners + 2

abbrev pub width : Plan → ℕ
width p = (segments p + 1) * p.block_words

-- the place of the given-back count of buffer b of register i
abbrev pub given : Plan → ℕ → ℕ → ℕ
given p i b = segments p + (i * buffers p + b)

-- the place of word q of buffer b of register i
abbrev pub cell : Plan → ℕ → ℕ → ℕ → ℕ
cell p i b q = segments p + (segments p * buffers p + ((i * buffers p + b) * width p + q))

-- how many words the table has
abbrev pub size : Plan → ℕ
size p = segments p + (segments p * buffers p + segments p * buffers p * width p)

-- the update e may follow the history a: its view is the memory after a beginning of a in which e's
-- segment has the same number as in a, and e's own number is the next
abbrev pub Follows : Plan → List Entry → Entry → Type 0
Follows p a e = (b : List Entry) × IsPrefix b a × (count e.segment b ≡ count e.segment a)
    × IsRecord (segments p) (number p b e.segment + 1) (value_at e.words 0) (memory p b) e.words

abbrev pub IsLegal : Plan → List Entry → Type 0
IsLegal p h = (a b : List Entry) (e : Entry) → a ++ e ∷ b ≡ h → Follows p a e

-- all numbers are valid
abbrev pub IsBelow : Plan → List Entry → Type 0
IsBelow p h = (i : ℕ) → i < segments p → IsNumber (number p h i)

-- the view writes segment i
abbrev pub Has : SeatView → ℕ → Type 0
Has v i = (v.low ≤ i) × (i < v.high)

-- the view writes segment i alone, and knows all its updates and its pool
abbrev pub IsWriter : SeatView → ℕ → Type 0
IsWriter v i = (v.low ≡ i) × (v.high ≡ i + 1) × (v.seen_end ≡ i + 1) × (v.pool_end ≡ i + 1)

-- the sum of f over the views
abbrev pub total : (SeatView → ℕ) → List SeatView → ℕ
total f [] = 0
total f (v ∷ vs) = f v + total f vs

-- 1 if the view pins buffer b of register i
abbrev pub on : ℕ → ℕ → SeatView → ℕ
on i b v = cond (slice_index v.pins i == b + 1) 1 0

-- 1 if x is a pin on a buffer from t on, other than c
abbrev pub far : ℕ → ℕ → ℕ → ℕ
far t c x = cond (ltb t x) (cond (x == c + 1) 0 1) 0

abbrev pub beyond : ℕ → ℕ → ℕ → SeatView → ℕ
beyond i t c v = far t c (slice_index v.pins i)

-- buffer number k of those other than c
abbrev pub other : ℕ → ℕ → ℕ
other c k = cond (ltb k c) k (k + 1)

-- all pins that the writer counted on buffer b, with the x that the current word counts
abbrev pub pins_of : BufferPool → ℕ → ℕ → ℕ
pins_of d x b = slice_index d.counted b + cond (d.current == b) x 0

-- buffer b of register i holds the words l, as far as it reaches
abbrev pub Holds : Plan → List ℕ → ℕ → ℕ → List ℕ → Type 0
Holds p words i b l = (q : ℕ) → q < width p → q < length l → slice_index words (cell p i b q) ≡ slice_index l q

-- each buffer holds its record, the free one behind the words of its draft
abbrev pub HoldsRecords : Plan → List Entry → List ℕ → ℕ → BufferPool → Type 0
HoldsRecords p h words i d = (b q : ℕ) → b < buffers p → q < width p → 0 < slice_index d.records b
    → (b ≡ d.free_buffer → length d.draft ≤ q) → q < length (record_words p h i (slice_index d.records b))
    → slice_index words (cell p i b q) ≡ slice_index (record_words p h i (slice_index d.records b)) q

-- Register i, whose current word counts x pins. The pins counted for a buffer are those returned and those held. The
-- buffer found free has no pins. The buffers found pinned, plus the pins on buffers other than these and the current
-- one, are no more than the seats. No count comes near 2^56.
module _ (p : Plan) (h : List Entry) (words : List ℕ) (views : List SeatView) (i : ℕ) where
  pub record Register (d : BufferPool) (x : ℕ) : Type 0 where
    pub word : slice_index words i ≡ d.current * 2 ^ 56 + x
    pub current : d.current < buffers p
    pub number : IsNumber (number p h i)
    pub balance : (b : ℕ) → b < buffers p → pins_of d x b ≡ slice_index words (given p i b) + total (on i b) views
    pub wears : (b : ℕ) → b < buffers p → pins_of d x b + total (λ v. v.left) views < 2 ^ 56
    pub free_buffer : d.free_buffer < buffers p → (d.free_buffer ≡ d.current → ⊥)
        × (total (on i d.free_buffer) views ≡ 0)
    pub found_pinned : d.found_pinned + total (beyond i (other d.current d.found_pinned) d.current) views ≤ seats p
    pub counts : length d.counted ≡ buffers p
    pub short : length d.draft ≤ width p
    pub draft : (q : ℕ) → d.free_buffer < buffers p → q < length d.draft
        → slice_index words (cell p i d.free_buffer q) ≡ slice_index d.draft q
    pub latest : Holds p words i d.current (record_words p h i (count i h))
    pub wide_records : length d.records ≡ buffers p
    pub old : (b : ℕ) → slice_index d.records b ≤ count i h
    pub records : HoldsRecords p h words i d

-- the pin on buffer b of register i is on record r, which the buffer holds
pub record Pinned (p : Plan) (h : List Entry) (words : List ℕ) (i b r : ℕ) : Type 0 where
  pub inside : b < buffers p
  pub old : r ≤ count i h
  pub holds : Holds p words i b (record_words p h i r)

module _ (p : Plan) (h : List Entry) (words : List ℕ) (writer : ℕ → ℕ) (pools : ℕ → BufferPool)
    (seat : ℕ) (v : SeatView) where
  -- the seat is the writer of segment i: it has seen or received all its updates, and knows its pool
  pub record Writes (i : ℕ) : Type 0 where
    pub inside : i < segments p
    pub own : writer i ≡ seat
    pub all : i < v.seen_end → only i v.seen ≡ only i h
    pub given : v.seen_end ≤ i → only i v.received ≡ only i h
    pub pool : i < v.pool_end → pools i ≡ v.pool

  pub record Knows : Type 0 where
    pub plan : v.spent ≡ false → v.plan ≡ p
    pub seen : IsPrefix v.seen h
    pub received : IsPrefix v.received h
    pub role : (i : ℕ) → Has v i → Writes i
    pub pins : (i b : ℕ) → i < segments p → slice_index v.pins i ≡ b + 1
        → Pinned p h words i b (slice_index v.records i)
    pub pin_quota : (i : ℕ) → 0 < slice_index v.pins i → 0 < v.pin_quota

-- There is one history, and each seat has seen a beginning of it; the words hold its records.
pub record Kept {S : Type 0} (p : Plan) (s : State S SeatView) : Type 0 where
  pub history : List Entry
  pub writer : ℕ → ℕ
  pub pools : ℕ → BufferPool
  pub pinned : ℕ → ℕ
  pub wide : length s.words ≡ size p
  pub shares : total (λ v. v.pin_quota) s.views ≤ seats p
  pub few : buffers p ≤ 128
  pub legal : IsLegal p history
  pub registers : (i : ℕ) → i < segments p → Register p history s.words s.views i (pools i) (pinned i)
  pub each_seat : (j : ℕ) (v : SeatView) → get_elem? s.views j ≡ some v → Knows p history s.words writer pools j v

-- what a seat learns from a step by which it sees the whole history
pub record Learns (v w : SeatView) : Type 0 where
  pub later : IsPrefix v.seen w.seen
  pub received : IsPrefix v.received w.seen
  pub own : (i : ℕ) → Has v i → i < v.seen_end → only i w.seen ≡ only i v.seen
  pub given : (i : ℕ) → Has v i → v.seen_end ≤ i → only i w.seen ≡ only i v.received
  pub legal : IsLegal v.plan w.seen
  pub below : IsBelow v.plan w.seen

-- the pool after buffer b became current, when the word before counted x pins
abbrev pub moved_pool : SeatView → ℕ → ℕ → BufferPool
moved_pool v b x = record {
  current = b;
  found_pinned = 0;
  free_buffer = buffers v.plan;
  counted = slice_set v.pool.counted v.pool.current (slice_index v.pool.counted v.pool.current + x);
  draft = [];
  records = slice_set v.pool.records b (count v.low v.seen + 1);
}

-- which update's record the free buffer held when it was found, and the words of that record
abbrev pub old_record : SeatView → ℕ
old_record v = slice_index v.pool.records v.pool.free_buffer

abbrev pub old_words : SeatView → List ℕ
old_words v = record_words v.plan v.seen v.low (old_record v)

-- if there is such a record, the seat has seen it and a legal history, and x is its word q
abbrev pub WasAt : SeatView → ℕ → ℕ → Type 0
WasAt v q x = 0 < old_record v → (old_record v ≤ count v.low v.seen) × IsLegal v.plan v.seen
    × (q < length (old_words v) → x ≡ slice_index (old_words v) q)

-- the last update that the seat has seen is its own, with the words that it drafted, and the free
-- buffer is the current one
pub record Publishes (v w : SeatView) (i x : ℕ) : Type 0 where
  pub same : w ≡ record v { seen = w.seen; pool = moved_pool v v.pool.free_buffer x; phase = Shown }
  pub between : List Entry
  pub seen : w.seen ≡ (v.seen ++ between) ++ entry i v.pool.draft ∷ []
  pub others : only i between ≡ []
  pub legal : IsLegal v.plan w.seen
  pub below : IsBelow v.plan w.seen
  pub small : slice_index v.pool.counted v.pool.current + x < 2 ^ 56

abbrev pub no_pool : BufferPool
no_pool = record { current = 0; found_pinned = 0; free_buffer = 0; counted = []; draft = []; records = [] }

abbrev pub spent : SeatView
spent = record {
  plan = record { scanners = 0; looks = 0; block_words = 0; start = [] };
  spent = true;
  seen = [];
  received = [];
  low = 0;
  high = 0;
  seen_end = 0;
  pool_end = 0;
  pool = no_pool;
  pin_quota = 0;
  left = 0;
  pins = [];
  records = [];
  look_records = [];
  phase = Shown;
}

-- a writer of the first segment that the view writes, with a pin per register and a seat's looks
abbrev pub first_role : SeatView → SeatView
first_role v = record v {
  high = v.low + 1;
  seen_end = v.low + 1;
  pool_end = v.low + 1;
  pin_quota = 1;
  left = v.plan.looks;
}

abbrev pub without_first_role : SeatView → SeatView
without_first_role v = record v {
  low = v.low + 1;
  pin_quota = v.pin_quota - 1;
  left = v.left - v.plan.looks;
}

-- a seat that writes nothing, with a pin per register and a seat's looks
abbrev pub reader : SeatView → SeatView
reader v = record v {
  received = [];
  low = 0;
  high = 0;
  seen_end = 0;
  pool_end = 0;
  pin_quota = 1;
  left = v.plan.looks;
}

abbrev pub without_reader : SeatView → SeatView
without_reader v = record v { pin_quota = v.pin_quota - 1; left = v.left - v.plan.looks }

-- what was seen, and nothing else
abbrev pub messenger : SeatView → SeatView
messenger v = record v {
  received = [];
  low = 0;
  high = 0;
  seen_end = 0;
  pool_end = 0;
  pin_quota = 0;
  left = 0;
  pins = [];
  records = [];
}

-- the first view after it received what the second has seen
abbrev pub with_received : SeatView → SeatView → SeatView
with_received v u = record v { received = u.seen }

-- the first view after it has seen what the second has
abbrev pub with_seen_of : SeatView → SeatView → SeatView
with_seen_of v u = record v { seen = u.seen }

-- all words but the last
abbrev pub without_last : List ℕ → List ℕ
without_last ws = take (length ws - 1) ws

-- the buffer whose given-back count is loaded next
abbrev pub next_other : BufferPool → ℕ
next_other d = other d.current d.found_pinned

module _ {S : Type 0} where
  -- a fetch_add on a current word: a look
  abbrev pub pinning : Step S → Me S SeatView → ℕ → Me S SeatView → Type 0
  pinning st m found m' = Learns m.0 m'.0 × (m'.1 ≡ m.1) × (found / 2 ^ 56 < buffers m.0.plan)
      × (m'.0 ≡ record m.0 {
        seen = m'.0.seen;
        received = [];
        seen_end = m.0.high;
        left = m.0.left - 1;
        pins = slice_set m.0.pins st.word (found / 2 ^ 56 + 1);
        records = slice_set m.0.records st.word (count st.word m'.0.seen);
        look_records = m.0.look_records ++ look_record m'.0.seen ∷ [];
      })

  -- a load of a current word: a look, if it is the buffer that the seat pins
  abbrev pub revisited : Step S → Me S SeatView → ℕ → Me S SeatView → Type 0
  revisited st m found m' = (slice_index m.0.pins st.word ≡ found / 2 ^ 56 + 1
      → Learns m.0 m'.0 × (m'.1 ≡ m.1)
      × (m'.0 ≡ record m.0 {
        seen = m'.0.seen;
        received = [];
        seen_end = m.0.high;
        left = m.0.left - 1;
        records = slice_set m.0.records st.word (count st.word m'.0.seen);
        look_records = m.0.look_records ++ look_record m'.0.seen ∷ [];
      }))
      × ((slice_index m.0.pins st.word ≡ found / 2 ^ 56 + 1 → ⊥) → m' ≡ m)

  -- a fetch_add on the given-back count of a pinned buffer
  abbrev pub giving : Step S → Me S SeatView → ℕ → Me S SeatView → Type 0
  giving st m found m' = (i b : ℕ) → b < buffers m.0.plan → st.word ≡ given m.0.plan i b
      → m' ≡ (record m.0 { pins = slice_set m.0.pins i 0 }, m.1)

  -- a load of a current word, without a pin
  abbrev pub caught_up : Step S → Me S SeatView → ℕ → Me S SeatView → Type 0
  caught_up st m found m' = Learns m.0 m'.0 × (m'.1 ≡ m.1)
      × (m'.0 ≡ record m.0 { seen = m'.0.seen; received = []; seen_end = m.0.high })

  -- a load of a current word, by which the seat notes that a store begins
  abbrev pub begun : Step S → Me S SeatView → ℕ → Me S SeatView → Type 0
  begun st m found m' = m' ≡ (record m.0 { phase = Storing }, m.1)

  -- a load of a current word, by which the seat notes that the store has ended
  abbrev pub ended : Step S → Me S SeatView → ℕ → Me S SeatView → Type 0
  ended st m found m' = m' ≡ (record m.0 { phase = Stored }, m.1)

  -- a load of a word of a pinned buffer
  abbrev pub read : Step S → Me S SeatView → ℕ → Me S SeatView → Type 0
  read st m found m' = (m' ≡ m) × IsLegal m.0.plan m.0.seen
      × ((i b q : ℕ) → st.word ≡ cell m.0.plan i b q → i < segments m.0.plan → q < width m.0.plan
      → slice_index m.0.pins i ≡ b + 1 → slice_index m.0.records i ≤ count i m.0.seen
      → q < length (record_words m.0.plan m.0.seen i (slice_index m.0.records i))
      → found ≡ slice_index (record_words m.0.plan m.0.seen i (slice_index m.0.records i)) q)

  -- a load of the given-back count of the next other buffer
  abbrev pub checked : Step S → Me S SeatView → ℕ → Me S SeatView → Type 0
  checked st m found m' = (found ≡ slice_index m.0.pool.counted (next_other m.0.pool)
      → m' ≡ (
        record m.0 {
          pool = record m.0.pool {
            free_buffer = next_other m.0.pool;
            draft = [];
          };
        },
        m.1,
      ))
      × ((found ≡ slice_index m.0.pool.counted (next_other m.0.pool) → ⊥)
      → (m' ≡ (
        record m.0 { pool = record m.0.pool { found_pinned = m.0.pool.found_pinned + 1 } },
        m.1,
      )) × (m.0.pool.found_pinned + 1 ≤ seats m.0.plan))

  -- a load of the next word of the free buffer, which becomes a part of the draft
  abbrev pub reused : Step S → Me S SeatView → ℕ → Me S SeatView → Type 0
  reused st m found m' = (m' ≡ (record m.0 { pool = record m.0.pool { draft = m.0.pool.draft ++ found ∷ [] } }, m.1))
      × WasAt m.0 (length m.0.pool.draft) found

  -- a load of a word of the free buffer, up to which the draft takes on what is left of the old record
  abbrev pub retained : Step S → Me S SeatView → ℕ → Me S SeatView → Type 0
  retained st m found m' = (q : ℕ) → q < width m.0.plan → st.word ≡ cell m.0.plan m.0.low m.0.pool.free_buffer q
      → m' ≡ (
        record m.0 {
          pool = record m.0.pool {
            draft = m.0.pool.draft
                ++ piece (old_words m.0) (length m.0.pool.draft) (q + 1 - length m.0.pool.draft);
          };
        },
        m.1,
      )

  -- a store in place of the last drafted word
  abbrev pub redrafted : Step S → Me S SeatView → ℕ → Me S SeatView → Type 0
  redrafted st m found m' = m' ≡ (
    record m.0 { pool = record m.0.pool { draft = without_last m.0.pool.draft ++ st.first ∷ [] } },
    m.1,
  )

  -- a swap of the seat's own current word
  abbrev pub published : Step S → Me S SeatView → ℕ → Me S SeatView → Type 0
  published st m found m' = Publishes m.0 m'.0 st.word (found - m.0.pool.current * 2 ^ 56)
      × (m.0.pool.current * 2 ^ 56 ≤ found) × (m'.1 ≡ m.1)
