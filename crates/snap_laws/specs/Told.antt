-- The replies that a client received, and the histories that have what they say.
use Rattle.std.specs.Prelude.{◌≡◌, ℕ, ◌<◌, ◌≤◌, ◌^◌, List, [], ◌∷◌, length, map, Some, slice_get}
use Rattle.snap_history.specs.History.{Update, Start, IsBeginning, number_after, value_after}
use Rattle.snap_frame.specs.declared.reply.Reply.TheVariants.{Stored, Snapshot, Part}
use Rattle.snap_frame.specs.Messages.{max_payload, payload, IsAskable, Asks, Says}
use Rattle.snap_frame.specs.{declared.request.Request.Request, declared.reply.Reply.Reply}
use Rattle.snap_frame.specs.{declared.named.NamedValue.NamedValue, Sets.named, Sets.IsAt, Values.pair_of}
use Rattle.snap_service.specs.Answers.{segment_of, named_pair}
use Rattle.snap_restart.specs.LifeCrash.{Has}
use Rattle.snap_frame.specs.declared.request.Request.TheVariants as request

-- these are the number and the value of each of n segments after the updates `part`
pub record IsMemoryAfter (n : ℕ) (start : Start) (part : List Update)
    (pairs : List (ℕ × List ℕ)) : Type 0 where
  pub size : length pairs ≡ n
  pub each : (i : ℕ) → i < n → slice_get pairs i ≡ Some (number_after start part i, value_after start part i)

-- these are the segments that the set names, in ascending order, all among the n, each with its
-- number and its value after the updates `part`
pub record IsPartAfter (n : ℕ) (start : Start) (set : ℕ) (part : List Update)
    (list : List NamedValue) : Type 0 where
  pub names : map segment_of list ≡ named set
  pub each : (p i : ℕ) → IsAt set p i → (i < n)
      × (slice_get (map named_pair list) p ≡ Some (number_after start part i, value_after start part i))

-- The history of n segments has what the reply says: an update that is stored, with its number and
-- its value; or the memory found by a scan of all or some segments, after a beginning of the
-- history. Other replies say nothing about the history.
abbrev pub Stands : ℕ → Start → List Update → Request → Reply → Type 0
Stands n start h (request.Update i k v) (Stored m) = (i < n) × (m ≡ k) × Has start h i k v
Stands n start h request.Scan (Snapshot values) = (part : List Update) × IsBeginning part h
    × IsMemoryAfter n start part (map pair_of values.items)
Stands n start h (request.Part set) (Part values) = (part : List Update) × IsBeginning part h
    × IsPartAfter n start set.bits part values.items
Stands n start h q r = Unit {0}

-- an update's number fits in eight bytes
abbrev pub HasNumber : Request → Type 0
HasNumber (request.Update i k v) = k < 2 ^ 64
HasNumber request.Scan = Unit {0}
HasNumber request.Status = Unit {0}
HasNumber (request.Part set) = Unit {0}

-- a request that a client may send: its payload says all of it and fits a frame
abbrev pub IsSendable : Request → Type 0
IsSendable q = HasNumber q × IsAskable q × (length (payload q) ≤ max_payload)

-- read as a request and its reply, these payloads say something that is in the history
abbrev pub IsTold : ℕ → Start → List Update → List ℕ → List ℕ → Type 0
IsTold n start h x y = (q : Request) (r : Reply) → HasNumber q → Asks x q → Says y r → Stands n start h q r

-- two lists of equal length, and R holds at each place
abbrev pub SideBySide : {A B : Type 0} → (A → B → Type 0) → List A → List B → Type 0
SideBySide R [] [] = Unit {0}
SideBySide R (x ∷ xs) (y ∷ ys) = R x y × SideBySide R xs ys
SideBySide R xs ys = ⊥

-- IsTold holds of each payload and its reply, in order
abbrev pub AreTold : ℕ → Start → List Update → List (List ℕ) → List (List ℕ) → Type 0
AreTold n start h xs ys = SideBySide (λ x y. IsTold n start h x y) xs ys
