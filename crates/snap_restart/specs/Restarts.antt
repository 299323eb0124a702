-- Any number of crashes and starts, one after another, and commands on the files between them.
use Rattle.std.specs.Prelude.{◌≡◌, ◌≢◌, ℕ, ◌+◌, ◌<◌, ◌≤◌, ◌==◌, if◌then◌else◌, List, [], ◌∷◌, ◌++◌, length, map, Some}
use Rattle.std.specs.Prelude.{slice_get}
use Rattle.snap_register.specs.{Registers.Moment, History.starts, History.updates, Rule.Kept}
use Rattle.snap_disk.specs.Device.{MayLeave}
use Rattle.snap_segment.specs.{Layout.Holds, Layout.IsFileOf, States.IsEither}
use Rattle.snap_history.specs.History.{Update, Start, updates_of}
use Rattle.snap_history.specs.Pairs.{Pairs}
use Rattle.snap_writer.specs.{Writer.WriterState, Life.Place, Life.CrashLeaves}
use Rattle.snap_restart.specs.Crash.{IsLifeFrom, AllHonest, GoesOn, AreOpened, StayKept}
use Rattle.snap_restart.specs.{LifeCrash.Begun, LifeCrash.KeepMemory, LifeLaws.IsSeatOf}
use Rattle.snap_disk.specs.declared.disk.Disk as Disk

module _ {D : Type 0} (disk : Disk.Ghosts D) where
  -- These devices are the same files after a crash: a further crash leaves of each only what that
  -- crash could leave, because a crash leaves open places open until a sync has succeeded.
  abbrev pub FollowCrash : List (Place D) → List D → Type 0
  FollowCrash crashed nexts = Pairs (λ _ p d. (b : List ℕ) → MayLeave (disk.device d) b
      → CrashLeaves disk p b) crashed nexts

  -- These devices are the same files after an opening that was cut off or refused: a further crash
  -- leaves only what a crash since the opening began could have left.
  abbrev pub FollowOpening : List D → List D → List D → Type 0
  FollowOpening olds news nexts = (length olds ≡ length nexts)
      × ((i : ℕ) (d e f : D) (b : List ℕ) → slice_get olds i ≡ Some d → slice_get news i ≡ Some e
      → slice_get nexts i ≡ Some f → MayLeave (disk.device f) b
      → disk.is_honest e × disk.might_have_left e (disk.clock d) b)

  -- a crash leaves of each file no more than it could before
  abbrev pub LeaveNoMore : List D → List D → Type 0
  LeaveNoMore olds news = Pairs (λ _ d e. (b : List ℕ) → MayLeave (disk.device e) b
      → MayLeave (disk.device d) b) olds news

  -- a command worked on the file of segment i: a crash leaves only such bytes of it, and of each other
  -- file no more than it could before
  pub record Works (i : ℕ) (leaves : List ℕ → Type 0) (olds news : List D) : Type 0 where
    pub there : i < length olds
    pub others : Pairs (λ j d e. j ≢ i → (b : List ℕ) → MayLeave (disk.device e) b
        → MayLeave (disk.device d) b) olds news
    pub own : (e : D) (b : List ℕ) → slice_get news i ≡ Some e → MayLeave (disk.device e) b → leaves b

  -- the file of segment i held number k and value v
  abbrev pub Held : ℕ → ℕ → List ℕ → List D → Type 0
  Held i k v devices = (d : D) → slice_get devices i ≡ Some d → Holds (disk.device d).bytes k v

abbrev pub update : ℕ → List ℕ → Update
update i v = record { segment = i; value = v }

-- the history without its updates of segment i
abbrev pub without : ℕ → List Update → List Update
without i [] = []
without i (u ∷ h) = if u.segment == i then without i h else u ∷ without i h

-- the start, but for segment i, which starts with number k and value v
abbrev pub from_there : Start → ℕ → ℕ → List ℕ → Start
from_there start i k v j = if j == i then (k, v) else start j

-- What happened to some files since they were known to keep the memory of the start: the whole
-- history of each moment at which a crash came, and the update of each `put`, newest first; and the
-- devices as the next opening or command gets them.
pub data Restarts {D : Type 0} (disk : Disk.Ghosts D) (n : ℕ)
    : Start → List (List Update) → List D → Type 0 where
  First : (start : Start) (devices : List D)
      → KeepMemory disk n start [] (Begun {D = D} []) devices
      → Restarts disk n start [] devices
  -- they were opened, and a crash came at some moment of the registers
  Crashed : (start : Start) (moments : List (List Update)) (devices nexts : List D)
      (writers : List (WriterState D)) (crashed : List (Place D)) (s : Moment)
      → Restarts disk n start moments devices
      → (opened : AreOpened disk devices writers)
      → AllHonest disk writers → (kept : Kept opened.plan s)
      → length crashed ≡ length writers
      → ((i : ℕ) (p : Place D) → slice_get crashed i ≡ Some p
      → IsLifeFrom disk writers i p × IsSeatOf s.views i p)
      → FollowCrash disk crashed nexts
      → Restarts disk n start (updates kept.history ∷ moments) nexts
  -- a crash came during an opening, or one of the files was refused
  Interrupted : (start : Start) (moments : List (List Update)) (devices news nexts : List D)
      → Restarts disk n start moments devices
      → StayKept disk devices news
      → FollowOpening disk devices news nexts
      → Restarts disk n start moments nexts
  -- a command worked on a file and changed nothing: `get`, `check`, a `put` that was refused or cut off
  -- before its store, or `init`, `format`, `load` or `migrate` to a file that was formatted
  Spared : (start : Start) (moments : List (List Update)) (devices nexts : List D)
      → Restarts disk n start moments devices
      → LeaveNoMore disk devices nexts
      → Restarts disk n start moments nexts
  -- a `put` stored v in the file of segment i
  Put : (start : Start) (moments : List (List Update)) (devices nexts : List D) (i k : ℕ)
      (u v : List ℕ) → Restarts disk n start moments devices
      → Held disk i k u devices
      → Works disk i (IsFileOf i n (k + 1) v) devices nexts
      → Restarts disk n start ((update i v ∷ []) ∷ moments) nexts
  -- a crash or a fault came during that store
  PutCutOff : (start : Start) (moments : List (List Update)) (devices nexts : List D) (i k : ℕ)
      (u v : List ℕ) → Restarts disk n start moments devices
      → Held disk i k u devices
      → Works disk i (IsEither i n k u v) devices nexts
      → Restarts disk n start ([] ∷ moments) nexts
  -- the file of segment i was lost or removed, and `init`, `format`, `load` or `migrate` has made it
  -- anew, with number k and value v: what was there of this segment is no longer in the history
  Remade : (start next : Start) (moments rest : List (List Update)) (devices nexts : List D)
      (i k : ℕ) (v : List ℕ) → Restarts disk n start moments devices
      → Works disk i (IsFileOf i n k v) devices nexts
      → next ≡ from_there start i k v
      → rest ≡ map (without i) moments
      → Restarts disk n next rest nexts

-- the history consists of those of these moments, one after another, and before each of them some
-- updates that were begun and not shown, at most one of each segment
abbrev pub IsJoined : List (List Update) → List Update → Type 0
IsJoined [] h = h ≡ []
IsJoined (moment ∷ earlier) h = (before : List Update) × (more : List Update)
    × IsJoined earlier before × ((i : ℕ) → updates_of i more ≤ 1) × (h ≡ (before ++ more) ++ moment)

-- the files keep the memory after one history of all these moments, and at most one update of each
-- segment that was begun before the last crash
pub record Last {D : Type 0} (disk : Disk.Ghosts D) (n : ℕ) (start : Start)
    (moments : List (List Update)) (devices : List D) : Type 0 where
  pub history : List Update
  pub crashed : List (Place D)
  pub joined : IsJoined moments history
  pub kept : KeepMemory disk n start history (Begun crashed) devices

abbrev pub AnyNumberLaw : {D : Type 0} → Disk.Ghosts D → Type 0
AnyNumberLaw {D} disk = (n : ℕ) (start : Start)
    (moments : List (List Update)) (devices : List D)
    → Restarts disk n start moments devices
    → Last disk n start moments devices

-- files that were just made, each with its number and its value, keep the memory of that start
abbrev pub MadeLaw : {D : Type 0} → Disk.Ghosts D → Type 0
MadeLaw {D} disk = (devices : List D) (start : Start)
    → ((i : ℕ) (d : D) (b : List ℕ) → slice_get devices i ≡ Some d → MayLeave (disk.device d) b
    → IsFileOf i (length devices) (start i).0 (start i).1 b)
    → Restarts disk (length devices) start [] devices

-- before the first opening nothing is known: its history begins with what the files hold
abbrev pub FirstLaw : {D : Type 0} → Disk.Ghosts D → Type 0
FirstLaw {D} disk = (devices : List D) (writers : List (WriterState D))
    (opened : AreOpened disk devices writers)
    → GoesOn disk opened.plan (starts opened.plan) [] [] writers
