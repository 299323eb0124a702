-- Requests and the forms of their arguments.
use Rattle.std.proofs.Common.{◌≡◌, ◌≢◌, ◌<◌, ◌≤◌, List, [], ◌∷◌, None, Some, length, map, get_or, ap, arith, Bor, codes}
use Rattle.std.proofs.Common.{subst, ℕ}
use Rattle.clap.specs.Words.{Text}
use Rattle.snap_order.specs.request.Request.TheVariants.{Update, Scan, Status, Part}
use Rattle.snap_order.specs.{Limits.MAX_COUNT, Order.IsWithin, request.Request.Request}
use Rattle.snap_order.specs.declared.order.CallRequest.{CallRequest}
use Rattle.snap_order.specs.Hex.{IsHex}
use Rattle.snap_args.specs.{Numbers.IsNumberOf, Requests.IsQuestionOf, Requests.IsUpdateOf}
use Rattle.snap_order.specs.declared.order.CallRequest.TheVariants as question

-- two arguments, of which the first is this name
pub two_words : (words : List (Bor Text)) (d : Bor Text) (name : Text) → length words ≡ 2
    → (get_or words 0 d).now ≡ name → map (λ w. w.now) words ≡ name ∷ (get_or words 1 d).now ∷ []
two_words (a ∷ b ∷ []) d name long e = ap (λ (first : Text). first ∷ b.now ∷ []) e
two_words words d name long e = absurd (omega arith)

-- four arguments, of which the first is `update`
pub four_words : (words : List (Bor Text)) (d : Bor Text) → length words ≡ 4 → (get_or words 0 d).now ≡ codes "update"
    → map (λ w. w.now) words ≡ codes "update" ∷ (get_or words 1 d).now ∷ (get_or words 2 d).now
    ∷ (get_or words 3 d).now ∷ []
four_words (a ∷ b ∷ c ∷ f ∷ []) d long e = ap (λ (first : Text). first ∷ b.now ∷ c.now ∷ f.now ∷ []) e
four_words words d long e = absurd (omega arith)

-- a text that is no segment is none of an update
pub no_segment : (segment number value : Text) → ((i : ℕ) → (i ≤ 255) × IsNumberOf (Some segment) i → ⊥)
    → (r : Request) → IsUpdateOf segment number value r → ⊥
no_segment segment number value none (Update i k bytes) is = none i (omega (arith, is.1), is.0)
no_segment segment number value none r is = is

-- a text that is no number is none of an update
pub no_number : (segment number value : Text)
    → ((k : ℕ) → (k ≤ 18446744073709551615) × IsNumberOf (Some number) k → ⊥)
    → (r : Request) → IsUpdateOf segment number value r → ⊥
no_number segment number value none (Update i k bytes) is = none k (omega (arith, is.3), is.2)
no_number segment number value none r is = is

-- a text that is no value is none of an update
pub no_value : (segment number value : Text) → ((bytes : List ℕ) → IsHex value bytes → ⊥)
    → (r : Request) → IsUpdateOf segment number value r → ⊥
no_value segment number value none (Update i k bytes) is = none bytes is.4
no_value segment number value none r is = is

-- arguments of none of these forms are no request
pub no_question : (words : List Text) → words ≢ codes "scan" ∷ [] → words ≢ codes "status" ∷ []
    → words ≢ codes "health" ∷ [] → ((w : Text) → words ≢ codes "part" ∷ w ∷ [])
    → ((w : Text) → words ≢ codes "get" ∷ w ∷ []) → ((w : Text) → words ≢ codes "put" ∷ w ∷ [])
    → ((i k v : Text) → words ≢ codes "update" ∷ i ∷ k ∷ v ∷ [])
    → (q : CallRequest) → IsQuestionOf words None None q → ⊥
no_question words scan status health part get put update (question.Request (Update i k bytes)) is =
    update is.0.0 is.0.1 is.0.2 is.0.3
no_question words scan status health part get put update (question.Request Scan) is = scan is.0
no_question words scan status health part get put update (question.Request Status) is = status is.0
no_question words scan status health part get put update (question.Request (Part set)) is = part is.0.0 is.0.1
no_question words scan status health part get put update question.Health is = health is.0
no_question words scan status health part get put update (question.Get i) is = get is.0.0 is.0.1
no_question words scan status health part get put update (question.Put p) is = put is.0 is.1

-- a text that is no segment is none of a get
pub no_get : (words : List Text) (segment : Text) → words ≡ codes "get" ∷ segment ∷ []
    → ((i : ℕ) → (i < MAX_COUNT) × IsNumberOf (Some segment) i → ⊥)
    → (q : CallRequest) → IsWithin q → IsQuestionOf words None None q → ⊥
no_get words segment e none (question.Get i) within is =
    let same : is.0.0 ≡ segment = cc in
    none i (within, subst (λ (w : Text). IsNumberOf (Some w) i) same is.0.2)
no_get words segment e none q within is = grind (arith, e, is)
