-- How the service may answer, by what its scanner has seen before and after.
use Rattle.std.specs.Prelude.{◌≡◌, ℕ, ◌^◌, ◌<◌, ◌≤◌, ◌⊎◌, List, length, map}
use Rattle.snap_disk.specs.declared.refusal.Refusal.{Refusal}
use Rattle.snap_disk.specs.declared.refusal.Refusal.TheVariants.{NoSegment, TooLong, NoMemory, Worn}
use Rattle.snap_history.specs.{declared.limits.TheConstants.MAX_VALUE_LEN, Limits.IsShort}
use Rattle.snap_memory.specs.Scans.{IsSnapshot, IsPart, TakesLooks, TakesLooksOf, MayRefuse}
use Rattle.snap_memory.specs.{Rule.segments, Seat.Known, Seat.Grows, Sets.named, Sets.size, Values.pair_of}
use Rattle.snap_frame.specs.declared.reply.Reply.TheVariants.{Stored, Snapshot, Status, Part, Refused}
use Rattle.snap_frame.specs.declared.{request.Request.Request, reply.Reply.Reply, named.NamedValue.NamedValue}
use Rattle.snap_service.specs.Settled.{IsSettledAt}
use Rattle.snap_frame.specs.declared.request.Request.TheVariants as request

-- the reply to an update of segment i to number k and value v
pub data AnswersUpdate (a : Known) (i k : ℕ) (v : List ℕ) (reply : Reply) (b : Known) : Type 0 where
  -- the segment doesn't exist
  Outside : segments a.plan ≤ i → reply ≡ Refused NoSegment (segments a.plan) → b ≡ a → AnswersUpdate a i k v reply b
  -- the value is too long
  Long : i < segments a.plan → MAX_VALUE_LEN < length v → reply ≡ Refused TooLong (length v)
      → b ≡ a → AnswersUpdate a i k v reply b
  -- the scanner has no look left
  Unseen : i < segments a.plan → IsShort v → a.left ≡ 0 → reply ≡ Refused Worn 0 → b ≡ a → AnswersUpdate a i k v reply b
  -- the reply fits what the scanner has seen after
  Settled : i < segments a.plan → IsShort v → IsSettledAt b i k v reply → Grows a b → AnswersUpdate a i k v reply b

-- the segment of an entry, and its number and value
abbrev pub segment_of : NamedValue → ℕ
segment_of v = v.segment

abbrev pub named_pair : NamedValue → ℕ × List ℕ
named_pair v = (v.number, v.value)

-- the scanner has seen more, by the looks of one scan
abbrev pub HasScanned : Known → Known → Type 0
HasScanned a b = Grows a b × TakesLooks a b

-- The reply to a scan: the numbers and the values of all segments at one moment that the scanner has seen, with all
-- that it had seen before, and all that was in the history at the scan's first look.
abbrev pub AnswersScan : Known → Reply → Known → Type 0
AnswersScan a (Snapshot values) b = IsSnapshot a b (map pair_of values.items) × HasScanned a b
AnswersScan a (Refused why detail) b = (detail ≡ 0) × MayRefuse (segments a.plan) a why b
AnswersScan a (Stored number) b = ⊥
AnswersScan a (Status statuses) b = ⊥
AnswersScan a (Part values) b = ⊥

-- the reply to a scan of the named segments, which all exist: each in ascending order with its number and its value, at
-- one moment, as in a scan of all
pub record IsPartOf (a : Known) (set : ℕ) (list : List NamedValue) (b : Known) : Type 0 where
  pub among : set < 2 ^ segments a.plan
  pub names : map segment_of list ≡ named set
  pub values : IsPart set a b (map named_pair list)
  pub seen : Grows a b
  pub looks : TakesLooksOf (size set) a b

-- the refusals of a scan, and `NoSegment` exactly if a named segment doesn't exist
abbrev pub MayRefusePart : Known → ℕ → Refusal → ℕ → Known → Type 0
MayRefusePart a set why detail b =
    ((2 ^ segments a.plan ≤ set) × (why ≡ NoSegment) × (detail ≡ segments a.plan) × (b ≡ a))
    ⊎ ((set < 2 ^ segments a.plan) × (detail ≡ 0) × MayRefuse (size set) a why b)

abbrev pub AnswersPart : Known → ℕ → Reply → Known → Type 0
AnswersPart a set (Part values) b = IsPartOf a set values.items b
AnswersPart a set (Refused why detail) b = MayRefusePart a set why detail b
AnswersPart a set (Stored number) b = ⊥
AnswersPart a set (Snapshot values) b = ⊥
AnswersPart a set (Status statuses) b = ⊥

-- the reply to a status: an entry for each segment, unless memory for them ran out
abbrev pub AnswersStatus : Known → Reply → Known → Type 0
AnswersStatus a (Status statuses) b = (length statuses.items ≡ segments a.plan) × (b ≡ a)
AnswersStatus a (Refused why detail) b = (why ≡ NoMemory) × (detail ≡ 0) × (b ≡ a)
AnswersStatus a (Stored number) b = ⊥
AnswersStatus a (Snapshot values) b = ⊥
AnswersStatus a (Part values) b = ⊥

-- The service's relation: a scanner that had seen `a` may give this reply to the request, and then has seen `b`.
abbrev pub Answers : Known → Request → Reply → Known → Type 0
Answers a (request.Update segment k v) reply b = AnswersUpdate a segment k v reply b
Answers a request.Scan reply b = AnswersScan a reply b
Answers a request.Status reply b = AnswersStatus a reply b
Answers a (request.Part set) reply b = AnswersPart a set.bits reply b
