-- The answers of a service that counts them.
use Rattle.std.specs.Prelude.{◌≡◌, ℕ, ◌-◌}
use Rattle.snap_frame.specs.declared.request.Request.TheVariants.{Scan, Part}
use Rattle.snap_frame.specs.declared.{request.Request.Request, reply.Reply.Reply}
use Rattle.snap_service.specs.{metrics.Tallies.counted, declared.metrics.worker.RequestCounts.RequestCounts}

-- the inner service, and the counts of the requests that it answered
pub record CountedState (S : Type 0) : Type 0 where
  pub service : S
  pub tally : RequestCounts

-- looks, where the request is a scan, of all segments or of some; no other request's are counted
abbrev pub looks_for : Request → ℕ → ℕ
looks_for Scan looks = looks
looks_for (Part set) looks = looks
looks_for q looks = 0

-- A request was answered by this reply: the inner service answered it, and the request was counted once, with the reply
-- and the looks that the service took for it, if it is a scan.
abbrev pub HasAnswered : {S : Type 0} → (S → ℕ) → (S → Request → Reply → S → Type 0) → CountedState S
    → Request → Reply → CountedState S → Type 0
HasAnswered looks gives old q r new = gives old.service q r new.service
    × (new.tally ≡ counted old.tally q r (looks_for q (looks old.service) - looks_for q (looks new.service)))
