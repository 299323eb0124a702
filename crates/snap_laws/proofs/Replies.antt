-- A service has seen what it replies.
use Rattle.std.proofs.Common.{◌≡◌, ⊎_elim, inl, inr, ℕ, ◌^◌, ◌<◌, List, map, refl, ◌∙◌}
use Rattle.snap_disk.specs.declared.refusal.Refusal.{Refusal}
use Rattle.snap_history.specs.History.{Update, IsBeginning}
use Rattle.snap_history.proofs.Beginnings.{beginning-self, beginning-trans}
use Rattle.snap_register.specs.{Seat.Known, Seat.Grows, Seat.IsMemory, History.starts, Rule.segments}
use Rattle.snap_scan.proofs.Sets.{at_below}
use Rattle.snap_memory.specs.{Scans.BeginsFresh, Scans.MayRefuse, Sets.size, Values.pair_of}
use Rattle.snap_frame.specs.declared.reply.Reply.TheVariants.{Stored, Snapshot, Status, Part, Refused}
use Rattle.snap_frame.specs.declared.{request.Request.Request, reply.Reply.Reply}
use Rattle.snap_service.specs.Answers.{Answers, AnswersUpdate, AnswersScan, AnswersPart, Outside, Long, Unseen, Settled}
use Rattle.snap_restart.specs.LifeCrash.{Has}
use Rattle.snap_laws.specs.Told.{IsPartAfter, Stands}
use Rattle.snap_frame.specs.declared.request.Request.TheVariants as request

-- b has seen all that a has, and maybe more, of the same registers
abbrev pub Sees : Known → Known → Type 0
Sees a b = (b.plan ≡ a.plan) × IsBeginning a.seen b.seen

pub sees_self : (a : Known) → Sees a a
sees_self a = (refl, beginning-self a.seen)

pub sees_same : (a b : Known) → b ≡ a → Sees a b
sees_same a b same = rw same (sees_self a)

pub sees_then : (a b c : Known) → Sees a b → Sees b c → Sees a c
sees_then a b c one two = (two.0 ∙ one.0, beginning-trans a.seen b.seen c.seen one.1 two.1)

sees_grown : (a b : Known) → Grows a b → Sees a b
sees_grown a b grows = (grows.plan, grows.later)

-- ---- a reply keeps what was seen

scan_refused : (k : ℕ) (a b : Known) (why : Refusal) → MayRefuse k a why b → Sees a b
scan_refused k a b why = ⊎_elim (λ m. ⊎_elim (sees_same a b) (λ more. sees_grown a b more.0) m.1)
    (λ worn. sees_same a b worn.2)

pub answered : (a b : Known) (q : Request) (r : Reply) → Answers a q r b → Sees a b
answered a b (request.Update i k v) r (Outside far is same) = sees_same a b same
answered a b (request.Update i k v) r (Long inside long is same) = sees_same a b same
answered a b (request.Update i k v) r (Unseen inside short none is same) = sees_same a b same
answered a b (request.Update i k v) r (Settled inside short is grows) = sees_grown a b grows
answered a b request.Scan (Snapshot values) is = sees_grown a b is.1.0
answered a b request.Scan (Refused why detail) is = scan_refused (segments a.plan) a b why is.1
answered a b request.Status (Status statuses) is = sees_same a b is.1
answered a b request.Status (Refused why detail) is = sees_same a b is.2
answered a b (request.Part set) (Part values) is = sees_grown a b is.seen
answered a b (request.Part set) (Refused why detail) (inl far) = sees_same a b far.3
answered a b (request.Part set) (Refused why detail) (inr may) = scan_refused (size set.bits) a b why may.2
answered a b q r is = absurd is

-- ---- what a reply says is in the history

pub stored : (a b : Known) (i k n : ℕ) (v : List ℕ) (h : List Update) → AnswersUpdate a i k v (Stored n) b
    → IsBeginning b.seen h → (i < segments b.plan) × (n ≡ k) × Has (starts b.plan) h i k v
stored a b i k n v h (Outside far is same) seen = absurd (cc is)
stored a b i k n v h (Long inside long is same) seen = absurd (cc is)
stored a b i k n v h (Unseen inside short none is same) seen = absurd (cc is)
stored a b i k n v h (Settled inside short is grows) seen = (rw grows.plan inside, is.0, (b.seen, seen, is.1, is.2))

pub snapshot : (a b : Known) (values : _) (h : List Update) → AnswersScan a (Snapshot values) b → IsBeginning b.seen h
    → (part : List Update) × IsBeginning a.seen part × BeginsFresh a b part × IsBeginning part h
    × IsMemory b part (map pair_of values.items)
snapshot a b values h is seen =
    let s = is.0 in
    (s.part, s.begins, s.fresh, beginning-trans s.part b.seen h s.within seen, s.is_memory)

pub snapshot_part : (a b : Known) (set : ℕ) (values : _) (h : List Update) → AnswersPart a set (Part values) b
    → IsBeginning b.seen h → (part : List Update) × IsBeginning a.seen part × BeginsFresh a b part × IsBeginning part h
    × IsPartAfter (segments b.plan) (starts b.plan) set part values.items
snapshot_part a b set values h is seen =
    let s = is.values in
    let among : set < 2 ^ segments b.plan = rw is.seen.plan is.among in (
      s.part,
      s.begins,
      s.fresh,
      beginning-trans s.part b.seen h s.within seen,
      record { names = is.names; each = λ p i at. (at_below set (segments b.plan) p i among at, s.each p i at) },
    )

pub replied : (a b : Known) (q : Request) (r : Reply) (h : List Update) → Answers a q r b
    → IsBeginning b.seen h → Stands (segments b.plan) (starts b.plan) h q r
replied a b (request.Update i k v) (Stored n) h is seen = stored a b i k n v h is seen
replied a b request.Scan (Snapshot values) h is seen =
    let s = snapshot a b values h is seen in
    (s.0, s.3, record { size = s.4.size; each = s.4.each })
replied a b (request.Part set) (Part values) h is seen =
    let s = snapshot_part a b set.bits values h is seen in
    (s.0, s.3, s.4)
replied a b q r h is seen = tt
