-- The replies of a service, a session and a client are in each history that begins with what the service's scanner had
-- seen. So they are in what a crash at any moment leaves.
use Rattle.std.specs.Prelude.{◌≡◌, ℕ, ◌<◌, List, [], ◌∷◌, ◌++◌, length, map, All, Option, Some, None, Ok, slice_get}
use Rattle.std.specs.List.{concat}
use Rattle.snap_register.specs.{Registers.Moment, declared.plan.SeatView.SeatView, History.starts, History.updates}
use Rattle.snap_register.specs.{Rule.segments, Rule.Kept, Seat.Known, Seat.IsMemory}
use Rattle.snap_history.specs.History.{Update, Start, IsBeginning}
use Rattle.snap_history.specs.Pairs.{Pairs}
use Rattle.snap_memory.specs.{Scans.BeginsFresh, Values.pair_of}
use Rattle.snap_writer.specs.{Writer.WriterState, Life.Place, Life.CrashLeaves}
use Rattle.snap_frame.specs.declared.reply.Reply.TheVariants.{Stored, Snapshot, Part}
use Rattle.snap_frame.specs.{declared.request.Request.Request, declared.reply.Reply.Reply, Messages.payload}
use Rattle.snap_session.specs.Talk.{Talk, Moves, frames}
use Rattle.snap_session.specs.Turns.{Turns}
use Rattle.snap_service.specs.Answers.{Answers, AnswersUpdate, AnswersScan, AnswersPart}
use Rattle.snap_client.specs.Calls.{ClientState, Reaches, fresh}
use Rattle.snap_restart.specs.LifeCrash.{Has, Begun, IsRecovered}
use Rattle.snap_restart.specs.LifeLaws.{IsSeatOf, IsSeenIn}
use Rattle.snap_restart.specs.Crash.{IsLifeFrom, AreOpened, GoesOn}
use Rattle.snap_laws.specs.Told.{IsPartAfter, Stands, IsSendable, SideBySide, AreTold}
use Rattle.snap_session.specs.Talk as session
use Rattle.snap_disk.specs.declared.disk.Disk as Disk

-- ---- a reply

-- the acknowledged update is in the history, with its number and its value
abbrev pub StoredLaw : Type 0
StoredLaw = (a b : Known) (i k n : ℕ) (v : List ℕ) (h : List Update)
    → AnswersUpdate a i k v (Stored n) b → IsBeginning b.seen h
    → (i < segments b.plan) × (n ≡ k) × Has (starts b.plan) h i k v

-- the values are the memory after a beginning of the history, and that has all that the service had
-- seen before the request and at the first look of its scan
abbrev pub ScannedLaw : Type 0
ScannedLaw = (a b : Known) (values : _) (h : List Update)
    → AnswersScan a (Snapshot values) b → IsBeginning b.seen h
    → (part : List Update) × IsBeginning a.seen part × BeginsFresh a b part × IsBeginning part h
    × IsMemory b part (map pair_of values.items)

-- the named segments exist, and each has its number and its value after such a beginning
abbrev pub ScannedPartLaw : Type 0
ScannedPartLaw = (a b : Known) (set : ℕ) (values : _) (h : List Update)
    → AnswersPart a set (Part values) b → IsBeginning b.seen h
    → (part : List Update) × IsBeginning a.seen part × BeginsFresh a b part × IsBeginning part h
    × IsPartAfter (segments b.plan) (starts b.plan) set part values.items

-- whatever the request, its reply is in the history
abbrev pub RepliedLaw : Type 0
RepliedLaw = (a b : Known) (q : Request) (r : Reply) (h : List Update) → Answers a q r b
    → IsBeginning b.seen h → Stands (segments b.plan) (starts b.plan) h q r

-- ---- a session

-- a session of the service, which has reached the state b since
pub record SessionUpTo (b : Known) : Type 0 where
  pub began : Known
  pub talk : Talk
  pub read_old : Option (List ℕ)
  pub read_new : Option (List ℕ)
  pub written_old : Option (List ℕ)
  pub written_new : Option (List ℕ)
  pub turns : Turns (Moves Answers) Answers began b session.start read_old read_new written_old
      written_new talk

-- all requests that the session got, with the replies that it has owed until now
abbrev pub SessionTold : {b : Known} → SessionUpTo b → ℕ → Start → List Update → Type 0
SessionTold s n start h =
    AreTold n start h s.turns.goes.payloads (s.turns.goes.replies ++ s.turns.goes.unsaid)

-- All replies that a session has owed until now, if it shares its service with others: what they say is in each history
-- that begins with what the service has seen by now.
abbrev pub SessionLaw : Type 0
SessionLaw = (b : Known) (s : SessionUpTo b) (h : List Update) → IsBeginning b.seen h
    → SessionTold s (segments b.plan) (starts b.plan) h

-- ---- a client

-- `early` is a beginning of `late`.
abbrev pub Begins : List ℕ → List ℕ → Type 0
Begins early late = (rest : List ℕ) × (late ≡ early ++ rest)

-- A connection that neither changes nor loses bytes: the session took in a beginning of what the client handed to its
-- writer, and the client's reader gave it a beginning of what the session gave out.
pub record IsHonestConnection (wrote read taken given : List ℕ) : Type 0 where
  pub taken_is : Begins taken wrote
  pub given_is : Begins read given

-- the client's call for the request q returned the reply r: it handed the frame of q to its writer,
-- and its reader gave it these bytes
abbrev pub Returned : {R W : Type 0} → (R → Option (List ℕ)) → (W → Option (List ℕ)) → Request → Reply
    → List ℕ → ClientState R W → ClientState R W → Type 0
Returned remaining contents q r read old new = (old.fault ≡ None) × (new.fault ≡ None)
    × (reached : Reaches remaining contents q old (Ok r) new) × (read ≡ reached.0)

-- one client made these requests one after another, and got these replies; for each its reader gave it these bytes
abbrev pub Converses : {R W : Type 0} → (R → Option (List ℕ)) → (W → Option (List ℕ))
    → List Request → List Reply → List (List ℕ) → ClientState R W → ClientState R W → Type 0
Converses remaining contents [] [] [] old new = new ≡ old
Converses {R} {W} remaining contents (q ∷ qs) (r ∷ rs) (read ∷ reads) old new =
    (mid : ClientState R W) × Returned remaining contents q r read old mid
    × Converses remaining contents qs rs reads mid new
Converses remaining contents qs rs reads old new = ⊥

-- what each reply says is in the history
abbrev pub AllStand : ℕ → Start → List Update → List Request → List Reply → Type 0
AllStand n start h qs rs = SideBySide (λ q r. Stands n start h q r) qs rs

-- The requests that some client made, and the replies it got, over an honest connection to a
-- session whose service has reached the state b since.
pub record WasAnswered {R W : Type 0} (remaining : R → Option (List ℕ))
    (contents : W → Option (List ℕ)) (b : Known) (qs : List Request) (rs : List Reply)
    : Type 0 where
  pub reader : R
  pub writer : W
  pub now : ClientState R W
  pub reads : List (List ℕ)
  pub sendable : All IsSendable qs
  pub converses : Converses remaining contents qs rs reads (fresh reader writer) now
  pub served : SessionUpTo b
  pub connection : IsHonestConnection (frames (map payload qs)) (concat reads) served.turns.taken
      served.turns.given

-- the replies that the client of such a connection returned to its caller are in the history
abbrev pub ClientLaw : {R W : Type 0} → (R → Option (List ℕ)) → (W → Option (List ℕ)) → Type 0
ClientLaw remaining contents = (b : Known) (qs : List Request) (rs : List Reply) (h : List Update)
    → WasAnswered remaining contents b qs rs → IsBeginning b.seen h
    → AllStand (segments b.plan) (starts b.plan) h qs rs

-- ---- a crash

-- a seat of the table has seen these updates, and maybe more
abbrev pub WasSeenIn : List SeatView → List Update → Type 0
WasSeenIn views seen = (later : List Update) × IsSeenIn views later × IsBeginning seen later

module _ {D R W : Type 0} (disk : Disk.Ghosts D) (remaining : R → Option (List ℕ))
    (contents : W → Option (List ℕ)) where
  -- Pull the plug: files were opened where an earlier history continues, and a crash of all devices comes at a moment
  -- of their registers. It is recovered as the memory after the whole history since the first start. That history has
  -- all that was replied: what any session of this opening had replied by then, what any client of such a session had
  -- returned to its caller, and all earlier replies.
  abbrev pub PlugLaw : Type 0
  PlugLaw = (devices : List D) (writers : List (WriterState D)) (start : Start)
      (before : List Update) (earlier : List (Place D))
      (opened : AreOpened disk devices writers)
      (on : GoesOn disk opened.plan start before earlier writers)
      (s : Moment) (kept : Kept opened.plan s) (crashed : List (Place D))
      (files : List (List ℕ)) → length crashed ≡ length writers
      → ((i : ℕ) (p : Place D) → slice_get crashed i ≡ Some p
      → IsLifeFrom disk writers i p × IsSeatOf s.views i p)
      → Pairs (λ _. CrashLeaves disk) crashed files
      → let whole = (before ++ on.more) ++ updates kept.history in
      IsRecovered (length writers) start whole (Begun crashed) files
      × ((b : Known) (t : SessionUpTo b) → b.plan ≡ opened.plan → WasSeenIn s.views b.seen
      → SessionTold t (length writers) start whole)
      × ((b : Known) (qs : List Request) (rs : List Reply) → WasAnswered remaining contents b qs rs
      → b.plan ≡ opened.plan → WasSeenIn s.views b.seen
      → AllStand (length writers) start whole qs rs)
      × ((q : Request) (r : Reply) → Stands (length writers) start before q r
      → Stands (length writers) start whole q r)
