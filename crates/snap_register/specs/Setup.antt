-- What a seat keeps about its table, and the table's plan.
use Rattle.std.specs.Prelude.{◌≡◌, ℕ, ◌+◌, ◌*◌, ◌^◌, ◌<◌, ◌≤◌, List, [], ◌++◌, length, slice_index, map, replicate}
use Rattle.std.specs.Prelude.{false}
use Rattle.std.specs.List.{flat_map}
use Rattle.snap_history.specs.Limits.{IsNumber}
use Rattle.snap_history.specs.declared.limits.TheConstants.{MAX_COUNT, MAX_SCANNERS}
use Rattle.snap_register.specs.History.{start_at, count, number}
use Rattle.snap_register.specs.Words.{value_at, IsBlock}
use Rattle.snap_register.specs.Rule.{segments, seats, buffers, width, size, IsWriter}
use Rattle.snap_register.specs.{declared.words.TheConstants.BLOCK_WORDS, declared.plan.SeatView.SeatView, Held.Readable}
use Rattle.snap_register.specs.{declared.setup.Setup.Setup, declared.plan.Opening.Opening, declared.tables.Sizes.Sizes}
use Rattle.snap_register.specs.{declared.plan.Plan.Plan, declared.plan.Start.Start, declared.plan.BufferPool.BufferPool}
use Rattle.snap_register.specs.declared.plan.UpdatePhase.TheVariants.{Shown}
use Rattle.atomic_table.specs.Table.{Me}

abbrev pub start_of : Opening → Start
start_of x = record { number = x.number; words = x.words.items }

abbrev pub plan_with : ℕ → ℕ → ℕ → List Opening → Plan
plan_with scanners looks block_words xs = record {
  scanners = scanners;
  looks = looks;
  block_words = block_words;
  start = map start_of xs;
}

abbrev pub plan_of : Setup → Plan
plan_of g = plan_with g.scanners g.looks g.block_words g.values.value.items

abbrev pub first_pool : Plan → BufferPool
first_pool p = record {
  current = 0;
  found_pinned = 0;
  free_buffer = buffers p;
  counted = replicate (buffers p) 0;
  draft = [];
  records = replicate (buffers p) 0;
}

abbrev pub first_view : Plan → SeatView
first_view p = record {
  plan = p;
  spent = false;
  seen = [];
  received = [];
  low = 0;
  high = segments p;
  seen_end = segments p;
  pool_end = segments p;
  pool = first_pool p;
  pin_quota = seats p;
  left = seats p * p.looks;
  pins = replicate (segments p) 0;
  records = replicate (segments p) 0;
  look_records = [];
  phase = Shown;
}

-- the record of segment i at the start fills the first words of a buffer
abbrev pub HasStart : Plan → ℕ → Type 0
HasStart p i = (length (start_at p i).words ≡ p.block_words)
    × IsBlock (start_at p i).words 0 (start_at p i).number (value_at (start_at p i).words 0)

-- these sizes are those of the plan
pub record IsSized (segments' scanners block_words words : ℕ) (p : Plan) : Type 0 where
  pub segments_are : segments' ≡ segments p
  pub scanners_are : scanners ≡ p.scanners
  pub block_words_are : block_words ≡ p.block_words
  pub words_are : words ≡ size p
  pub some : 0 < segments'
  pub few : segments' ≤ MAX_COUNT
  pub few_scanners : scanners ≤ MAX_SCANNERS
  pub block_words_is : p.block_words ≡ BLOCK_WORDS
  pub starts : (i : ℕ) → i < segments p → HasStart p i

-- the sizes of a new table, and a seat's looks, are those of the plan
abbrev pub HasSizes : Sizes → Plan → Type 0
HasSizes s p = IsSized s.segments s.scanners s.block_words s.words p × (s.looks ≡ p.looks)

-- a seat of a table of the plan's size, without slots and with these pins
pub record IsSeated {S : Type 0} (words : ℕ) (pins : List ℕ) (left : ℕ)
    (m : Me S SeatView) : Type 0 where
  pub words_are : words ≡ size m.0.plan
  pub alone : m.1 ≡ []
  pub here : m.0.spent ≡ false
  pub received_none : m.0.received ≡ []
  pub seen_end_is : m.0.seen_end ≡ m.0.high
  pub pin_quota_is : m.0.pin_quota ≡ 1
  pub left_is : left ≡ m.0.left
  pub wide_pins : length m.0.pins ≡ segments m.0.plan
  pub wide_records : length m.0.records ≡ segments m.0.plan
  pub pins_are : (i : ℕ) → i < segments m.0.plan → slice_index pins i ≡ slice_index m.0.pins i
  pub pins_inside : (i : ℕ) → i < segments m.0.plan → slice_index m.0.pins i ≤ buffers m.0.plan
  pub records_are : (i : ℕ) → i < segments m.0.plan → slice_index m.0.records i ≤ count i m.0.seen
  pub readable : (i : ℕ) → i < segments m.0.plan → Readable m.0.plan m.0.seen i (slice_index m.0.records i)

-- the seat writes segment i alone, at number k, and knows its current buffer, the pins counted for each buffer, and
-- which of them it has filled
pub record IsPool {S : Type 0} (i k current : ℕ) (counted filled : List ℕ)
    (m : Me S SeatView) : Type 0 where
  pub role : IsWriter m.0 i
  pub inside : i < segments m.0.plan
  pub number_is : k ≡ number m.0.plan m.0.seen i
  pub current_is : current ≡ m.0.pool.current
  pub current_inside : current < buffers m.0.plan
  pub found_pinned_is : m.0.pool.found_pinned ≡ 0
  pub counts : length m.0.pool.counted ≡ buffers m.0.plan
  pub counted_are : (b : ℕ) → b < buffers m.0.plan → slice_index counted b ≡ slice_index m.0.pool.counted b
  pub draft_none : m.0.pool.draft ≡ []
  pub wide_records : length m.0.pool.records ≡ buffers m.0.plan
  pub filled_are : (b : ℕ) → b < buffers m.0.plan → 0 < slice_index filled b → 0 < slice_index m.0.pool.records b

-- the words of a segment's buffers after the first words of its first record
abbrev pub unused : Plan → ℕ
unused p = segments p * p.block_words + (segments p + p.scanners + 1) * width p

-- the words at the start: in each register buffer 0 is current and has no pin
abbrev pub opening_words : Plan → List ℕ
opening_words p = replicate (segments p + segments p * buffers p) 0
    ++ flat_map (λ s. s.words ++ replicate (unused p) 0) p.start

-- the values fill the first words, which begin with their numbers, and the looks can't bring a count near 2^56
pub record IsReady (p : Plan) : Type 0 where
  pub each : (i : ℕ) → i < segments p → HasStart p i × IsNumber (start_at p i).number
  pub block_words_is : p.block_words ≡ BLOCK_WORDS
  pub few : buffers p ≤ 128
  pub looks : seats p * p.looks < 2 ^ 56

-- the first seat while others are split off from it: it still has a pin per register and the looks
-- for each that is to come
pub record IsFirst {S : Type 0} (words left : ℕ) (m : Me S SeatView) : Type 0 where
  pub words_are : words ≡ size m.0.plan
  pub alone : m.1 ≡ []
  pub here : m.0.spent ≡ false
  pub seen_is : m.0.seen ≡ []
  pub received_none : m.0.received ≡ []
  pub seen_end_is : m.0.seen_end ≡ m.0.high
  pub pool_end_is : m.0.pool_end ≡ m.0.high
  pub pool_is : m.0.pool ≡ first_pool m.0.plan
  pub pin_quota_is : m.0.pin_quota ≡ left
  pub left_is : m.0.left ≡ left * m.0.plan.looks
  pub readable : (i : ℕ) → i < segments m.0.plan → Readable m.0.plan m.0.seen i (slice_index m.0.records i)
  pub pins_are : m.0.pins ≡ replicate (segments m.0.plan) 0
  pub records_are : m.0.records ≡ replicate (segments m.0.plan) 0
  pub phase_is : m.0.phase ≡ Shown

-- a seat just split off
pub record IsFresh {S : Type 0} (words : ℕ) (m : Me S SeatView) : Type 0 where
  pub words_are : words ≡ size m.0.plan
  pub alone : m.1 ≡ []
  pub here : m.0.spent ≡ false
  pub seen_is : m.0.seen ≡ []
  pub received_none : m.0.received ≡ []
  pub seen_end_is : m.0.seen_end ≡ m.0.high
  pub pool_is : m.0.pool ≡ first_pool m.0.plan
  pub pin_quota_is : m.0.pin_quota ≡ 1
  pub left_is : m.0.left ≡ m.0.plan.looks
  pub readable : (i : ℕ) → i < segments m.0.plan → Readable m.0.plan m.0.seen i (slice_index m.0.records i)
  pub pins_are : m.0.pins ≡ replicate (segments m.0.plan) 0
  pub records_are : m.0.records ≡ replicate (segments m.0.plan) 0
  pub phase_is : m.0.phase ≡ Shown
