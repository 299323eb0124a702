-- Which arguments ask for which request.
use Rattle.std.specs.Prelude.{◌≡◌, ◌<◌, ◌≤◌, ◌^◌, List, [], ◌∷◌, length, Option, Some, None, codes}
use Rattle.clap.specs.Words.{Text}
use Rattle.snap_order.specs.Hex.{IsHex}
use Rattle.snap_order.specs.Messages.{IsAskable, max_payload, payload}
use Rattle.snap_order.specs.request.Request.TheVariants.{Update, Scan, Status, Part}
use Rattle.snap_order.specs.{Order.IsWithin, Order.request_of, request.Request.Request, declared.order.Source.Source}
use Rattle.snap_order.specs.{declared.order.CallRequest.CallRequest, declared.order.PutOptions.PutOptions}
use Rattle.snap_args.specs.Numbers.{IsLargeNumberOf, IsMask, IsNumberOf}
use Rattle.snap_order.specs.declared.order.CallRequest.TheVariants as question
use Rattle.snap_order.specs.declared.order.Source.TheVariants as source

-- the update with these arguments
abbrev pub IsUpdateOf : (segment number value : Text) → Request → Type 0
IsUpdateOf segment number value (Update i k bytes) = IsNumberOf (Some segment) i × (i < 2 ^ 8)
    × IsNumberOf (Some number) k × (k < 2 ^ 64) × IsHex value bytes
IsUpdateOf segment number value request = ⊥

-- the scan of the segments in this mask
abbrev pub IsPartOf : (mask : Text) → Request → Type 0
IsPartOf mask (Part set) = IsMask mask set.bits
IsPartOf mask request = ⊥

-- the request of these arguments
abbrev pub IsRequestOf : List Text → Request → Type 0
IsRequestOf words (Update i k bytes) = (segment : Text) × (number : Text) × (value : Text)
    × (words ≡ codes "update" ∷ segment ∷ number ∷ value ∷ []) × IsUpdateOf segment number value (Update i k bytes)
IsRequestOf words Scan = words ≡ codes "scan" ∷ []
IsRequestOf words Status = words ≡ codes "status" ∷ []
IsRequestOf words (Part set) = (mask : Text) × (words ≡ codes "part" ∷ mask ∷ []) × IsPartOf mask (Part set)

-- the source of a put's value: its option if that is given, and else standard input
abbrev pub IsSourceOf : Option Text → Source → Type 0
IsSourceOf None source.Input = Unit {0}
IsSourceOf (Some word) (source.Words bytes) = bytes ≡ word
IsSourceOf word s = ⊥

-- the put with this segment and these options
pub record IsPutOf (i : Text) (text k : Option Text) (p : PutOptions) : Type 0 where
  pub segment : IsNumberOf (Some i) p.segment
  pub byte : p.segment < 2 ^ 8
  pub value : IsSourceOf text p.value
  pub after : IsLargeNumberOf k p.after

-- the options of a put aren't given
abbrev pub HasNoOption : (value after : Option Text) → Type 0
HasNoOption value after = (value ≡ None) × (after ≡ None)

-- The call's request by these arguments. A put's options are allowed for a put only.
abbrev pub IsQuestionOf : List Text → (value after : Option Text) → CallRequest → Type 0
IsQuestionOf words value after (question.Request r) = IsRequestOf words r × HasNoOption value after
IsQuestionOf words value after question.Health = (words ≡ codes "health" ∷ []) × HasNoOption value after
IsQuestionOf words value after (question.Get i) =
    ((segment : Text) × (words ≡ codes "get" ∷ segment ∷ []) × IsNumberOf (Some segment) i) × HasNoOption value after
IsQuestionOf words value after (question.Put p) =
    (segment : Text) × (words ≡ codes "put" ∷ segment ∷ []) × IsPutOf segment value after p

-- its first request fits a frame and is a valid one, and its own numbers and value have their limits
abbrev pub KeepsLimits : CallRequest → Type 0
KeepsLimits q = (length (payload (request_of q)) ≤ max_payload) × IsAskable (request_of q) × IsWithin q
