-- The lines of a script: the first, and those of events.
use Rattle.std.specs.Prelude.{◌≡◌, ℕ, ◌≤◌, List, [], ◌∷◌, length, codes, ⊤}
use Rattle.std.specs.{List.AllZip, declared.vec.Vec.Vec, declared.alloc.Global.Global}
use Rattle.snap_disk.specs.declared.fill.Fill.{Fill}
use Rattle.snap_history.specs.declared.limits.TheConstants.{MAX_COUNT}
use Rattle.snap_order.specs.Hex.{IsHex}
use Rattle.snap_script.specs.Words.{words_of, IsNumber, IsFill, IsMask}
use Rattle.snap_script.specs.declared.verb.Verb.{Verb}
use Rattle.snap_world.specs.{set.SegmentSet.SegmentSet, declared.event.Actor.Actor, declared.event.Event.Event}
use Rattle.snap_script.specs.declared.verb.Verb.TheVariants as verb
use Rattle.snap_world.specs.declared.event.Actor.TheVariants as actor
use Rattle.snap_world.specs.declared.event.Event.TheVariants as event

-- `world N S`, both from 1 to 16
abbrev pub IsWorldLine : List ℕ → ℕ → ℕ → Type 0
IsWorldLine line n s = (a b : List ℕ) × (words_of line ≡ codes "world" ∷ a ∷ b ∷ []) × IsNumber a n × IsNumber b s
    × (1 ≤ n) × (n ≤ MAX_COUNT) × (1 ≤ s) × (s ≤ MAX_COUNT)

-- the word by which an event's line begins
abbrev pub name_of : Verb → List ℕ
name_of verb.Begin = codes "begin"
name_of verb.Look = codes "look"
name_of verb.Call = codes "call"
name_of verb.Fail = codes "fail"
name_of verb.Show = codes "show"
name_of verb.Acknowledge = codes "ack"
name_of verb.Scan = codes "scan"
name_of verb.Pick = codes "pick"
name_of verb.Answer = codes "answer"
name_of verb.Crash = codes "crash"
name_of verb.Restart = codes "restart"
name_of verb.RestartCall = codes "recall"
name_of verb.RestartFail = codes "refail"
name_of verb.Serve = codes "serve"

-- `wW` or `sS`
abbrev pub IsActor : List ℕ → Actor → Type 0
IsActor word (actor.Writer w) = (digits : List ℕ) × (word ≡ 119 ∷ digits) × IsNumber digits w
IsActor word (actor.Scanner s) = (digits : List ℕ) × (word ≡ 115 ∷ digits) × IsNumber digits s

-- one word, which is the number i
abbrev pub IsOneNumber : List (List ℕ) → ℕ → Type 0
IsOneNumber words i = (word : List ℕ) × (words ≡ word ∷ []) × IsNumber word i

-- one number follows the verb
abbrev pub TakesNumber : Verb → Type 0
TakesNumber verb.Call = ⊤
TakesNumber verb.Show = ⊤
TakesNumber verb.Acknowledge = ⊤
TakesNumber verb.Scan = ⊤
TakesNumber verb.Answer = ⊤
TakesNumber v = ⊥

-- the words after the verb, and the event that they make with it
abbrev pub HasForm : Verb → List (List ℕ) → Event → Type 0
HasForm verb.Begin words e = (w hex : List ℕ) × (i : ℕ) × (value : Vec ℕ Global)
    × (e ≡ event.Begin i value) × (words ≡ w ∷ hex ∷ []) × IsNumber w i × IsHex hex value.items
HasForm verb.Look words e =
    (word : List ℕ) × (who : Actor) × (e ≡ event.Look who) × (words ≡ word ∷ []) × IsActor word who
HasForm verb.Call words e = (i : ℕ) × (e ≡ event.Call i) × IsOneNumber words i
HasForm verb.Fail words e = (w f : List ℕ) × (i : ℕ) × (fill : Fill)
    × (e ≡ event.Fail i fill) × (words ≡ w ∷ f ∷ []) × IsNumber w i × IsFill f fill
HasForm verb.Show words e = (i : ℕ) × (e ≡ event.Show i) × IsOneNumber words i
HasForm verb.Acknowledge words e = (i : ℕ) × (e ≡ event.Acknowledge i) × IsOneNumber words i
HasForm verb.Scan words e = (i : ℕ) × (e ≡ event.Scan i) × IsOneNumber words i
HasForm verb.Pick words e = (s mask : List ℕ) × (i : ℕ) × (set : SegmentSet)
    × (e ≡ event.Pick i set) × (words ≡ s ∷ mask ∷ []) × IsNumber s i × IsMask mask set
HasForm verb.Answer words e = (i : ℕ) × (e ≡ event.Answer i) × IsOneNumber words i
-- each word is the fill at its index
HasForm verb.Crash words e = (fills : Vec Fill Global) × (e ≡ event.Crash fills)
    × (1 ≤ length words) × AllZip IsFill words fills.items
HasForm verb.Restart words e = (e ≡ event.Restart) × (words ≡ [])
HasForm verb.RestartCall words e = (e ≡ event.RestartCall) × (words ≡ [])
HasForm verb.RestartFail words e =
    (f : List ℕ) × (fill : Fill) × (e ≡ event.RestartFail fill) × (words ≡ f ∷ []) × IsFill f fill
HasForm verb.Serve words e = (e ≡ event.Serve) × (words ≡ [])

-- a line whose words are those of the event
abbrev pub IsEventLine : List ℕ → Event → Type 0
IsEventLine line e = (v : Verb) × (words : List (List ℕ)) × (words_of line ≡ name_of v ∷ words) × HasForm v words e
