-- Requests answered by a service, one after another.
use Rattle.std.proofs.Common.{ℕ, List, [], ◌++◌, refl}
use Rattle.http.specs.declared.request.Request.{Request}
use Rattle.http_server.{specs.declared.response.Response.Response, proofs.StreamLemmas.Chain-append}
use Rattle.snap_board.specs.Answered.{Answered}

module _ {S : Type 0} (answers : S → Request (List ℕ) → Response → S → Type 0) where
  -- more requests were answered after the first ones
  pub answered_joins : (old between new : S) → Answered answers old between → Answered answers between new
      → Answered answers old new
  answered_joins old between new (xs, first) (ys, then) =
      (xs ++ ys, Chain-append answers xs ys old between new first then)

  -- no request was answered
  pub answered_none : (s : S) → Answered answers s s
  answered_none s = ([], refl)
