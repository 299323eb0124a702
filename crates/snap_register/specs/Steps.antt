-- What a seat with its table knows, and what each call changes.
use Rattle.std.specs.Prelude.{◌≡◌, ℕ, ◌+◌, ◌-◌, ◌<◌, ◌≤◌, ◌++◌, List, [], length, slice_index}
use Rattle.atomic_table.specs.{Table.Me, declared.shared.Seat.Seat}
use Rattle.snap_register.specs.History.{count, start_at, record_words}
use Rattle.snap_register.specs.Rule.{segments, buffers, width, cell, IsWriter, Learns, old_record, old_words}
use Rattle.snap_register.specs.Words.{value_at, block_at, size_at, piece, behind, IsWhole}
use Rattle.snap_register.specs.{declared.access.Access.Access, Held.held, Setup.IsSeated, Seat.Known, Seat.known}
use Rattle.snap_register.specs.declared.plan.{BufferPool.BufferPool, Entry.Entry, Plan.Plan, SeatView.SeatView}

-- what the seat knows
abbrev pub view_at : Seat (Unit {0}) SeatView → SeatView
view_at s = s.me.0

abbrev pub view_of : Access → SeatView
view_of a = view_at a.seat

-- that, as the seat's callers see it
abbrev pub known_of : Access → Known
known_of a = known a.seat.table_id (view_of a)

-- what the seat knows of its own register's buffers
abbrev pub pool_of : Access → BufferPool
pool_of a = (view_of a).pool

-- the words that the seat has drafted in the free buffer
abbrev pub draft_of : Access → List ℕ
draft_of a = (pool_of a).draft

-- the seat writes segment i alone, and the segment exists
abbrev pub Owns : SeatView → ℕ → Type 0
Owns v i = IsWriter v i × (i < segments v.plan)

-- buffer b of the seat's own register was found free
abbrev pub IsFree : SeatView → ℕ → Type 0
IsFree v b = (b ≡ v.pool.free_buffer) × (b < buffers v.plan)

-- the seat pins a buffer of register j
abbrev pub HasPin : SeatView → ℕ → Type 0
HasPin v j = (j < segments v.plan) × (0 < slice_index v.pins j)

-- word q of the record that the seat pins on register j is at this place
pub record LiesAt (v : SeatView) (j q place : ℕ) : Type 0 where
  pub pinned : HasPin v j
  pub inside : q < length (held v j)
  pub is : place ≡ cell v.plan j (slice_index v.pins j - 1) q

-- the next word of the free buffer is at this place
pub record IsNext (v : SeatView) (place : ℕ) : Type 0 where
  pub own : ℕ
  pub owns : Owns v own
  pub free : v.pool.free_buffer < buffers v.plan
  pub inside : length v.pool.draft < width v.plan
  pub is : place ≡ cell v.plan own v.pool.free_buffer (length v.pool.draft)

-- word q of the record that the free buffer held before is at this place, and not inside the draft
pub record IsOld (v : SeatView) (q place : ℕ) : Type 0 where
  pub own : ℕ
  pub owns : Owns v own
  pub free : v.pool.free_buffer < buffers v.plan
  pub some : 0 < old_record v
  pub behind : length v.pool.draft ≤ q + 1
  pub inside : (q < width v.plan) × (q < length (old_words v))
  pub is : place ≡ cell v.plan own v.pool.free_buffer q

-- the draft ends where block k of the view begins in the record that the free buffer held before
pub record IsAligned (v : SeatView) (k : ℕ) : Type 0 where
  pub some : 0 < old_record v
  pub at : length v.pool.draft ≡ behind (old_words v) (size_at (old_words v) 0) k

-- the block at this place has one of the numbers of segment k in this history, and that number's value
pub record IsOf (p : Plan) (h : List Entry) (k : ℕ) (ws : List ℕ) (at : ℕ) : Type 0 where
  pub nth : ℕ
  pub seen : nth ≤ count k h
  pub block : block_at ws at ≡ ((start_at p k).number + nth, value_at (record_words p h k nth) 0)

-- the seat has seen all that is in the history, and all that it received
abbrev pub HasHeard : {S : Type 0} → Me S SeatView → Me S SeatView → Type 0
HasHeard m n = Learns m.0 n.0 × (n.1 ≡ m.1)
    × (n.0 ≡ record m.0 { seen = n.0.seen; received = []; seen_end = m.0.high })

-- the same seat of the same table, with as many looks left
abbrev pub IsSameSeat : Access → Access → Type 0
IsSameSeat a b = (b.seat.table_id ≡ a.seat.table_id) × (b.seat.id ≡ a.seat.id) × (b.left ≡ a.left)

-- the seat is as an access keeps it
abbrev pub HasSeat : Seat (Unit {0}) SeatView → Type 0
HasSeat s = (pins : List ℕ) × (left : ℕ) × IsSeated s.table_id.words pins left s.me

-- the same seat, with the same knowledge and looks
abbrev pub IsSame : Access → Access → Type 0
IsSame a b = (b.seat.table_id ≡ a.seat.table_id) × (b.seat.id ≡ a.seat.id) × (b.seat.me ≡ a.seat.me) × (b.left ≡ a.left)

-- only the pool has changed, to d
abbrev pub HasPool : Access → Access → BufferPool → Type 0
HasPool a b d = b.seat.me ≡ (record (view_of a) { pool = d }, a.seat.me.1)

-- only the draft has changed, to ws
abbrev pub Drafts : Seat (Unit {0}) SeatView → Seat (Unit {0}) SeatView → List ℕ → Type 0
Drafts s t ws = (t.table_id ≡ s.table_id) × (t.id ≡ s.id)
    × (t.me ≡ (record (view_at s) { pool = record (view_at s).pool { draft = ws } }, s.me.1))

abbrev pub HasDrafted : Access → Access → List ℕ → Type 0
HasDrafted a b ws = (b.left ≡ a.left) × (b.seat.table_id ≡ a.seat.table_id)
    × (b.seat.id ≡ a.seat.id) × HasPool a b (record (pool_of a) { draft = ws })

-- the block at this place of a pinned record of j was appended to the draft
pub record HasCopied (a b : Access) (j at count : ℕ) : Type 0 where
  pub words : List ℕ
  pub from : ℕ
  pub same : HasDrafted a b (draft_of a ++ piece words from count)
  pub whole : IsWhole words from
  pub size : count ≡ size_at words from
  pub block : block_at words from ≡ block_at (held (view_of a) j) at
