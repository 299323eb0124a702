-- The answers of a board.
use Rattle.std.specs.Prelude.{◌≡◌, ◌⊎◌, ◌||◌, ℕ, List, Option, Some, None, Bool, MatchBool, bytes_eq, codes}
use Rattle.std.specs.Prelude.{option_and_then, if◌then◌else◌}
use Rattle.std.specs.List.{list_all, list_any}
use Rattle.http.specs.{Request.head_of, Uri.uri_path}
use Rattle.http_server.specs.declared.response.Response.{Response}
use Rattle.snap_frame.specs.declared.{entries.SegmentStatus.SegmentStatus, reply.Reply.Reply, request.Request.Request}
use Rattle.snap_frame.specs.segment_value.SegmentValue.{SegmentValue}
use Rattle.snap_order.specs.Each.{each_from}
use Rattle.snap_order.specs.Documents.{health_text, list_text, status_tokens, value_tokens}
use Rattle.snap_board.specs.{Paths.page_of, declared.page.Page.Page}
use Rattle.http.specs.declared.request.Request as http
use Rattle.snap_frame.specs.declared.reply.Reply.TheVariants as replies
use Rattle.snap_frame.specs.declared.request.Request.TheVariants as requests
use Rattle.snap_board.specs.declared.page.Page.TheVariants as pages

-- the response has this status and this content
abbrev pub HasContent : ℕ → List ℕ → Response → Type 0
HasContent status content r = (r.status ≡ status) × (r.body.items ≡ content)

-- the request to the service that a page needs, if any
abbrev pub asked_of : Page → Option Request
asked_of pages.Home = None
asked_of pages.Style = None
asked_of pages.Script = None
asked_of pages.Metrics = Some requests.Status
asked_of pages.Health = Some requests.Status
asked_of pages.Live = None
asked_of pages.Ready = Some requests.Status
asked_of pages.Scan = Some requests.Scan
asked_of pages.Status = Some requests.Status
asked_of pages.Stats = Some requests.Status
asked_of pages.History = None

-- the page shows these values
abbrev pub ShowsValues : Page → List SegmentValue → ℕ → List ℕ → Type 0
ShowsValues pages.Scan values status content = (status ≡ 200) × (content ≡ list_text (each_from value_tokens 0 values))
ShowsValues page values status content = ⊥

-- The page shows these statuses. The status is 503 for the health if a segment is fenced, and for the readiness if all
-- are. The texts of the metrics have no clause.
abbrev pub ShowsStatuses : Page → List SegmentStatus → ℕ → List ℕ → Type 0
ShowsStatuses pages.Metrics statuses status content = status ≡ 200
ShowsStatuses pages.Health statuses status content =
    (status ≡ (if list_any (λ s. s.is_fenced) statuses then 503 else 200)) × (content ≡ health_text statuses)
ShowsStatuses pages.Ready statuses status content =
    status ≡ (if list_all (λ s. s.is_fenced) statuses then 503 else 200)
ShowsStatuses pages.Status statuses status content =
    (status ≡ 200) × (content ≡ list_text (each_from status_tokens 0 statuses))
ShowsStatuses pages.Stats statuses status content = status ≡ 200
ShowsStatuses page statuses status content = ⊥

-- the page shows the reply to its request
abbrev pub ShowsReply : Page → Reply → ℕ → List ℕ → Type 0
ShowsReply page (replies.Snapshot values) status content = ShowsValues page values.items status content
ShowsReply page (replies.Status statuses) status content = ShowsStatuses page statuses.items status content
ShowsReply page reply status content = ⊥

-- a method that only reads
abbrev pub is_read : List ℕ → Bool
is_read method = bytes_eq method (codes "GET") || bytes_eq method (codes "HEAD")

-- the page that a request names, if any
abbrev pub named : http.Request (List ℕ) → Option Page
named request = page_of (uri_path (head_of request).uri)

-- what a service that gives such replies is asked, and the status and content of each answer
module _ {S : Type 0} (gives : S → Request → Reply → S → Type 0) where
  -- the service got at most this request, once
  abbrev pub MayAsk : Option Request → S → S → Type 0
  MayAsk None old new = new ≡ old
  MayAsk (Some q) old new = (new ≡ old) ⊎ ((reply : Reply) × gives old q reply new)

  -- a page shows the reply to its request, or is a constant file
  abbrev pub Shows : Page → Option Request → S → ℕ → List ℕ → S → Type 0
  Shows page None old status content new = (new ≡ old) × (status ≡ 200)
  Shows page (Some q) old status content new =
      (reply : Reply) × gives old q reply new × ShowsReply page reply status content

  -- The answer is the page; or it is 503, since the service gave no such reply or memory ran out.
  abbrev pub AnswersPage : Page → S → ℕ → List ℕ → S → Type 0
  AnswersPage page old status content new = Shows page (asked_of page) old status content new
      ⊎ ((status ≡ 503) × MayAsk (asked_of page) old new)

  -- the answer for a path, which may have no page
  abbrev pub AnswersPath : Option Page → S → ℕ → List ℕ → S → Type 0
  AnswersPath None old status content new = (new ≡ old) × ((status ≡ 404) ⊎ (status ≡ 503))
  AnswersPath (Some page) old status content new = AnswersPage page old status content new

  -- the answer to a request
  abbrev pub Answers : S → http.Request (List ℕ) → ℕ → List ℕ → S → Type 0
  Answers old request status content new = MatchBool (is_read (head_of request).method)
      (AnswersPath (named request) old status content new) ((new ≡ old) × ((status ≡ 405) ⊎ (status ≡ 503)))

  -- the request to the service that an HTTP request may cause
  abbrev pub MayAskFor : S → http.Request (List ℕ) → S → Type 0
  MayAskFor old request new = MatchBool (is_read (head_of request).method)
      (MayAsk (option_and_then asked_of (named request)) old new) (new ≡ old)
