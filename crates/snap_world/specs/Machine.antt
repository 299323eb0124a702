-- The abstract machine: a history of updates, each writer's begun or shown update, the moments at
-- which each scan began and looked last, and the moment of its answer.
use Rattle.std.proofs.Common.{suc}
use Rattle.std.specs.Prelude.{◌≡◌, ℕ, Bool, true, false, List, [], ◌∷◌, ◌++◌, length, map, Option, Some, None}
use Rattle.std.specs.Prelude.{slice_get, slice_set, take}
use Rattle.snap_history.specs.History.{Update, from_nothing, number_after, IsMemory}
use Rattle.snap_scan.specs.Course.{HasTurn, Borrows}
use Rattle.snap_scan.specs.{Looks.IsDecided, Sets.size, declared.set.SegmentSet.SegmentSet, Collects.IsMoment}
use Rattle.snap_world.specs.Answers.{ScanState, scan_from, IsAnswer, all_of, set_of, numbers_of, part_at, pair_of}
use Rattle.snap_world.specs.declared.event.Event.TheVariants.{Begin, Look, Call, Fail, Show, Acknowledge, Scan, Pick}
use Rattle.snap_world.specs.declared.event.Event.TheVariants.{Answer, Crash, Restart, RestartCall, RestartFail, Serve}
use Rattle.snap_world.specs.declared.event.Reply.TheVariants.{Begun as Begun_reply, Number, Called, DeviceFailed}
use Rattle.snap_world.specs.declared.event.Reply.TheVariants.{Shown as Shown_reply, Stored, ScanBegun, Memory, Part}
use Rattle.snap_world.specs.declared.event.Reply.TheVariants.{Crashed, Restarting, NotNow}
use Rattle.snap_world.specs.declared.scanner.Asked.{Asked, TheVariants.All, TheVariants.Only}
use Rattle.snap_world.specs.declared.event.{Actor.TheVariants.Writer, Actor.TheVariants.Scanner, Event.Event}
use Rattle.snap_world.specs.declared.event.Reply.{Reply}

-- a writer's current update
pub data Pending : Type 0 where
  Free : Pending
  Begun : (v : List ℕ) → Pending
  Shown : (v : List ℕ) → Pending

-- a segment: its current update, whether it is fenced, the scan that is embedded in the update, and the
-- moment with which its last update was shown, if it has shown one since the node last began to serve
pub record WriterState : Type 0 where
  pub pending : Pending
  pub fenced : Bool
  pub scan : ScanState
  pub view : Option ℕ

-- a segment without work, which has shown nothing yet
abbrev pub resting : WriterState
resting = record { pending = Free; fenced = false; scan = scan_from 0; view = None }

-- a scanner: its scan, if it has one, with the segments that were asked for
pub data ScannerState : Type 0 where
  Closed : ScannerState
  Opened : (asked : Asked) → (scan : ScanState) → ScannerState

pub record State : Type 0 where
  pub history : List Update
  pub writers : List WriterState
  pub scanners : List ScannerState

-- the state with one writer's, or one scanner's, part changed
abbrev pub with_writer : State → ℕ → WriterState → State
with_writer x w s = record x { writers = slice_set x.writers w s }

abbrev pub with_scanner : State → ℕ → ScannerState → State
with_scanner x i s = record x { scanners = slice_set x.scanners i s }

-- the state with one more update, of a writer whose part changes with it
abbrev pub with_update : State → ℕ → List ℕ → WriterState → State
with_update x w v s = record x {
  history = x.history ++ record { segment = w; value = v } ∷ [];
  writers = slice_set x.writers w s;
}

-- the last update of segment j was shown with moment p
abbrev pub ShownWith : State → ℕ → ℕ → Type 0
ShownWith x j p = (s : WriterState) × (slice_get x.writers j ≡ Some s) × (s.view ≡ Some p)

-- In state x, the moment of a scan of this set that looked just now: none if the numbers read
-- decide nothing, else one from its beginning to now that follows from them; and if they borrow
-- from segment j, the very moment with which its last update was shown.
abbrev pub Decides : ℕ → State → ScanState → Option ℕ → Type 0
Decides set x s None = IsDecided (size set) s.told → ⊥
Decides set x s (Some p) = IsDecided (size set) s.told
    × IsMoment (size set) (numbers_of set x.history) s.start s.last s.told p
    × ((j : ℕ) → Borrows set s.told j → ShownWith x j p)

-- scan s after a look in state x that read the number k
abbrev pub looked : State → ScanState → ℕ → Option ℕ → ScanState
looked x s k moment =
    record s { last = length x.history; told = s.told ++ k ∷ []; moment = moment }

-- in state x scan s of this set reads the number k of the segment whose turn it is, and is scan t then
pub record IsLook (set : ℕ) (x : State) (s : ScanState) (k : ℕ) (t : ScanState) : Type 0 where
  pub segment : ℕ
  pub turn : HasTurn set s.told segment
  pub number : k ≡ number_after from_nothing x.history segment
  pub after : t ≡ looked x s k t.moment
  pub decides : Decides set x t t.moment

-- a crash: a shown update is done, a begun one stays, and no scan is open
abbrev pub crashed_pending : Pending → Pending
crashed_pending Free = Free
crashed_pending (Begun v) = Begun v
crashed_pending (Shown v) = Free

abbrev pub crashed_writer : WriterState → WriterState
crashed_writer s =
    record s { pending = crashed_pending s.pending; scan = scan_from 0; view = None }

abbrev pub crashed : State → State
crashed x =
    record x { writers = map crashed_writer x.writers; scanners = map (λ s. Closed) x.scanners }

-- the begun update of segment i, if there is one
abbrev pub begun_update : ℕ → Pending → List Update
begun_update i Free = []
begun_update i (Begun v) = record { segment = i; value = v } ∷ []
begun_update i (Shown v) = []

-- the begun updates of the segments that are marked, in order of segment, the first being segment i
abbrev pub chosen : ℕ → List WriterState → List Bool → List Update
chosen i [] marks = []
chosen i (s ∷ ss) [] = []
chosen i (s ∷ ss) (false ∷ marks) = chosen (suc i) ss marks
chosen i (s ∷ ss) (true ∷ marks) = begun_update i s.pending ++ chosen (suc i) ss marks

-- the history after a restart that took the marked updates
abbrev pub history_with : State → List Bool → List Update
history_with x marks = x.history ++ chosen 0 x.writers marks

-- the state after it: all actors are idle, and nothing is fenced
abbrev pub served : State → List Bool → State
served x marks = record {
  history = history_with x marks;
  writers = map (λ s. resting) x.writers;
  scanners = map (λ s. Closed) x.scanners;
}

-- from state x, over n segments, the event may get this reply and lead to state y
abbrev pub Step : ℕ → State → Event → Reply → State → Type 0
-- an event that may not come doesn't change the state
Step n x event NotNow y = y ≡ x
Step n x (Begin w v) Begun_reply y =
    (s : WriterState) × (slice_get x.writers w ≡ Some s) × (s.pending ≡ Free) × (s.fenced ≡ false)
    × (y ≡ with_writer x w
    (record s { pending = Begun v.items; scan = scan_from (length x.history) }))
-- a look reads the number of the segment whose turn it is; the scan that is embedded in an update is of all segments
Step n x (Look (Writer w)) (Number k) y = (s : WriterState) × (slice_get x.writers w ≡ Some s)
    × (t : ScanState) × IsLook (all_of n) x s.scan k t × (y ≡ with_writer x w (record s { scan = t }))
Step n x (Look (Scanner i)) (Number k) y =
    (asked : Asked) × (s : ScanState) × (slice_get x.scanners i ≡ Some (Opened asked s))
    × (t : ScanState) × IsLook (set_of n asked) x s k t × (y ≡ with_scanner x i (Opened asked t))
-- a device call that succeeds doesn't change the state; after one that fails the segment is fenced
Step n x (Call w) (Called kind) y = y ≡ x
Step n x (Fail w fill) DeviceFailed y =
    (s : WriterState) × (v : List ℕ) × (slice_get x.writers w ≡ Some s) × (s.pending ≡ Begun v)
    × (y ≡ with_writer x w (record s { fenced = true }))
-- a publication adds the begun update to the history, with the moment of its embedded scan
Step n x (Show w) Shown_reply y =
    (s : WriterState) × (v : List ℕ) × (slice_get x.writers w ≡ Some s) × (s.pending ≡ Begun v)
    × (y ≡ with_update x w v (record s { pending = Shown v; view = s.scan.moment }))
Step n x (Acknowledge w) (Stored k) y =
    (s : WriterState) × (v : List ℕ) × (slice_get x.writers w ≡ Some s) × (s.pending ≡ Shown v)
    × (k ≡ number_after from_nothing x.history w)
    × (y ≡ with_writer x w (record s { pending = Free; scan = scan_from 0 }))
Step n x (Scan i) ScanBegun y = (slice_get x.scanners i ≡ Some Closed)
    × (y ≡ with_scanner x i (Opened All (scan_from (length x.history))))
Step n x (Pick i set) ScanBegun y = (slice_get x.scanners i ≡ Some Closed)
    × (y ≡ with_scanner x i (Opened (Only set) (scan_from (length x.history))))
-- the memory as it was at the scan's moment, between its beginning and its last look
Step n x (Answer i) (Memory m) y = (s : ScanState) × (slice_get x.scanners i ≡ Some (Opened All s))
    × IsAnswer (all_of n) x.history s (λ p. IsMemory n from_nothing (take p x.history) (map (λ v. v.items) m.items))
    × (y ≡ with_scanner x i Closed)
-- of a scan of some segments, these alone, each with its value at that moment
Step n x (Answer i) (Part m) y =
    (set : SegmentSet) × (s : ScanState) × (slice_get x.scanners i ≡ Some (Opened (Only set) s))
    × IsAnswer set.bits x.history s (λ p. map pair_of m.items ≡ part_at set.bits x.history p)
    × (y ≡ with_scanner x i Closed)
Step n x (Crash fills) Crashed y = y ≡ crashed x
Step n x Restart Restarting y = y ≡ x
Step n x RestartCall (Called kind) y = y ≡ x
Step n x (RestartFail fill) DeviceFailed y = y ≡ x
-- a restart answers with the memory after the history and some of the begun updates
Step n x Serve (Memory m) y = (marks : List Bool) × IsMemory n from_nothing (history_with x marks)
    (map (λ v. v.items) m.items) × (y ≡ served x marks)
-- no other reply is given
Step n x event reply y = ⊥
