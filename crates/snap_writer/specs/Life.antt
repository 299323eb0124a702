-- The life of a writer: its steps in order, each on its device alone or on its seat alone; and the places in it at
-- which a crash may find it. The life goes no further than the crash: in a store, its device is as the calls made so
-- far left it.
use Rattle.std.specs.Prelude.{◌≡◌, ◌⊎◌, ℕ, ◌+◌, List, [], ◌∷◌, Option, Some, None, true}
use Rattle.snap_disk.specs.{Device.MayLeave, Time.LeavesOnly}
use Rattle.snap_segment.specs.{Layout.IsFileOf, States.IsEither, Segment.SegmentState}
use Rattle.snap_history.specs.History.{Update, IsBeginning}
use Rattle.snap_register.specs.{declared.plan.Plan.Plan, declared.plan.UpdatePhase.UpdatePhase, Seat.Grows}
use Rattle.snap_register.specs.declared.plan.UpdatePhase.TheVariants.{Shown, Storing, Stored}
use Rattle.snap_writer.specs.Writer.{WriterState, number_of, value_of}
use Rattle.snap_writer.specs.Update.{IsSameSeat, EndsWith}
use Rattle.snap_disk.specs.declared.disk.Disk as Disk

-- where a crash finds a writer: the segment as the last finished store left it, what its seat knows
-- now, and the store in progress, if any: its value, and the device as that store's calls left it
pub record Place (D : Type 0) : Type 0 where
  pub writer : WriterState D
  pub storing : Option (List ℕ × D)

abbrev pub resting : {D : Type 0} → WriterState D → Place D
resting w = record { writer = w; storing = None }

abbrev pub in_store : {D : Type 0} → WriterState D → List ℕ → D → Place D
in_store w v d = record { writer = w; storing = Some (v, d) }

-- what the seat has seen at that place
abbrev pub seen_at : {D : Type 0} → Place D → List Update
seen_at p = p.writer.seat.seen

-- what is stored is what was shown last
abbrev pub IsShown : {D : Type 0} → WriterState D → Type 0
IsShown w = (w.segment.number ≡ number_of w) × (w.segment.value ≡ value_of w)

-- what is stored is one update more, to be shown next
abbrev pub IsAhead : {D : Type 0} → WriterState D → Type 0
IsAhead w = (w.segment.number ≡ number_of w + 1) × (w.segment.begun ≡ None)

-- what the seat's phase says of the segment, if number k and value u were shown last: it has these; or these or the
-- next update; or this
abbrev pub HasInPhase : {D : Type 0} → SegmentState D → ℕ → List ℕ → UpdatePhase → Type 0
HasInPhase s k u Shown = ((s.number ≡ k) × (s.value ≡ u)) × (s.begun ≡ None)
HasInPhase s k u Storing = ((s.number ≡ k) × (s.value ≡ u)) ⊎ ((s.number ≡ k + 1) × (s.begun ≡ None))
HasInPhase s k u Stored = (s.number ≡ k + 1) × (s.begun ≡ None)

abbrev pub IsInPhase : {D : Type 0} → WriterState D → UpdatePhase → Type 0
IsInPhase w f = HasInPhase w.segment (number_of w) (value_of w) f

abbrev pub IsStoring : {D : Type 0} → Option (List ℕ × D) → List ℕ → Type 0
IsStoring None v = ⊥
IsStoring (Some s) v = v ≡ s.0

-- an update to v was begun and isn't shown: its store is in progress, has failed, or has ended
abbrev pub HasBegun : {D : Type 0} → Place D → List ℕ → Type 0
HasBegun p v = IsStoring p.storing v
    ⊎ ((p.writer.segment.begun ≡ Some v) ⊎ (IsAhead p.writer × (v ≡ p.writer.segment.value)))

-- the bytes are the segment's file with its number and value, or with the next number and the value whose store failed
abbrev pub HoldsOf : {D : Type 0} → SegmentState D → List ℕ → Type 0
HoldsOf s b = IsFileOf s.index s.count s.number s.value b
    ⊎ ((u : List ℕ) × (s.begun ≡ Some u) × IsFileOf s.index s.count (s.number + 1) u b)

module _ {D : Type 0} (disk : Disk.Ghosts D) where
  -- between stores a crash leaves what is stored, or after a failed store perhaps the next number
  -- with the value that was begun
  abbrev pub Rests : WriterState D → Type 0
  Rests w = disk.is_honest w.segment.device → (b : List ℕ) → MayLeave (disk.device w.segment.device) b
      → HoldsOf w.segment b

  -- its seat sees more updates, by a look or a meeting, and none of its own segment
  pub record Sees (a b : WriterState D) : Type 0 where
    pub segment_is : b.segment ≡ a.segment
    pub grows : Grows a.seat b.seat

  -- it notes in the registers that a store begins; what was stored before has been shown
  pub record Begins (a b : WriterState D) : Type 0 where
    pub segment_is : b.segment ≡ a.segment
    pub shown : IsInPhase a Shown
    pub noted : a.seat.phase ≡ Shown
    pub seat_is : b.seat ≡ record a.seat { phase = Storing }

  -- a store of v that a began has come as far as the device d: all that crashes since might have left is what was
  -- stored, or v under the next number
  pub record IsOnItsWay (v : List ℕ) (a : WriterState D) (d : D) : Type 0 where
    pub noted : a.seat.phase ≡ Storing
    pub unfenced : a.segment.begun ≡ None
    pub shown : IsShown a
    pub any_time : disk.is_honest d → LeavesOnly disk a.segment.device d
        (IsEither a.segment.index a.segment.count a.segment.number a.segment.value v)

  -- it stores v under the next number, or fails to
  pub record Stores (v : List ℕ) (a b : WriterState D) : Type 0 where
    pub seat_is : b.seat ≡ a.seat
    pub went : IsOnItsWay v a b.segment.device
    pub ends : (b.segment ≡ record a.segment {
      device = b.segment.device;
      number = a.segment.number + 1;
      value = v;
      spare_open = true;
    }) ⊎ (b.segment ≡ record a.segment { device = b.segment.device; begun = Some v })
    pub rests : Rests b
    pub honest_then : disk.is_honest b.segment.device → disk.is_honest a.segment.device

  -- it notes in the registers that the store has ended
  pub record Ends (a b : WriterState D) : Type 0 where
    pub segment_is : b.segment ≡ a.segment
    pub stored : IsAhead a
    pub noted : a.seat.phase ≡ Storing
    pub seat_is : b.seat ≡ record a.seat { phase = Stored }

  -- it shows the update that is stored
  pub record Shows (a b : WriterState D) : Type 0 where
    pub segment_is : b.segment ≡ a.segment
    pub stored : IsAhead a
    pub noted : a.seat.phase ≡ Stored
    pub same_seat : IsSameSeat a.seat b.seat
    pub shown : EndsWith a.seat b.seat a.segment.value
    pub phase : b.seat.phase ≡ Shown

  -- a step on its seat, or on its device
  abbrev pub Does : WriterState D → WriterState D → Type 0
  Does a b = (Sees a b ⊎ (Begins a b ⊎ (Ends a b ⊎ Shows a b))) ⊎ ((v : List ℕ) × Stores v a b)

  -- from a on it did these things, and is z now
  abbrev pub Lived : WriterState D → List (WriterState D) → WriterState D → Type 0
  Lived a [] z = z ≡ a
  Lived a (b ∷ life) z = Does a b × Lived b life z

  -- the place is the writer a, whose seat may have seen more by then: at most what it has seen at
  -- z, and no update of its own segment
  abbrev pub IsAt : WriterState D → WriterState D → Place D → Type 0
  IsAt z a p = (m : WriterState D) × Sees a m × IsBeginning m.seat.seen z.seat.seen × (p ≡ resting m)

  -- the place is inside a store that a began, whose device is d by now
  abbrev pub IsInStore : WriterState D → WriterState D → Place D → Type 0
  IsInStore z a p = (m : WriterState D) × (v : List ℕ) × (d : D) × Sees a m
      × IsBeginning m.seat.seen z.seat.seen × IsOnItsWay v a d × (p ≡ in_store m v d)

  -- the place is in this life, which began at a and has reached z, perhaps in a store that z began
  abbrev pub IsIn : WriterState D → WriterState D → List (WriterState D) → Place D → Type 0
  IsIn z a [] p = IsAt z a p ⊎ IsInStore z a p
  IsIn z a (b ∷ life) p = (IsAt z a p ⊎ IsInStore z a p) ⊎ IsIn z b life p

  -- the device is honest, and a crash at that place may leave b of it: at a moment between two
  -- stores, or at any time since a store began
  abbrev pub Leaves : WriterState D → Option (List ℕ × D) → List ℕ → Type 0
  Leaves w None b = disk.is_honest w.segment.device × MayLeave (disk.device w.segment.device) b
  Leaves w (Some s) b = disk.is_honest s.1 × disk.might_have_left s.1 (disk.clock w.segment.device) b

  abbrev pub CrashLeaves : Place D → List ℕ → Type 0
  CrashLeaves p b = Leaves p.writer p.storing b

  -- the writer of segment i of n: its device is at rest, and what is stored is as its seat's phase says
  pub record IsWriterOf (plan : Plan) (n i : ℕ) (w : WriterState D) : Type 0 where
    pub plan_is : w.seat.plan ≡ plan
    pub low_is : w.seat.low ≡ i
    pub high_is : w.seat.high ≡ i + 1
    pub index_is : w.segment.index ≡ i
    pub count_is : w.segment.count ≡ n
    pub phase_is : IsInPhase w w.seat.phase
    pub rests : Rests w

  -- if a store is in progress, a crash leaves what was shown last or the value being stored
  abbrev pub IsMidStore : WriterState D → Option (List ℕ × D) → Type 0
  IsMidStore w None = Unit {0}
  IsMidStore w (Some s) = (w.seat.phase ≡ Storing) × IsShown w × (disk.is_honest s.1 → (b : List ℕ)
      → disk.might_have_left s.1 (disk.clock w.segment.device) b
      → IsEither w.segment.index w.segment.count w.segment.number w.segment.value s.0 b)

  pub record IsPlaceOf (plan : Plan) (n i : ℕ) (p : Place D) : Type 0 where
    pub writer_is : IsWriterOf plan n i p.writer
    pub storing_is : IsMidStore p.writer p.storing

  -- it came from a to z by what it did in between
  abbrev pub HasLived : WriterState D → WriterState D → Type 0
  HasLived a z = (life : List (WriterState D)) × Lived a life z

  -- it began a store of v first, and stored it or failed to; then it showed what is stored, or its seat saw more
  pub record StoresFirst (v : List ℕ) (a z : WriterState D) : Type 0 where
    pub began : WriterState D
    pub begins : Begins a began
    pub stored : WriterState D
    pub stores : Stores v began stored
    pub after : ((ended : WriterState D) × Ends stored ended × Shows ended z) ⊎ Sees stored z
