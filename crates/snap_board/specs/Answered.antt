-- The requests that a server has its service answer.
use Rattle.std.specs.Prelude.{ℕ, List}
use Rattle.http.specs.declared.request.Request.{Request}
use Rattle.http_server.specs.{declared.response.Response.Response, Exchange.Call, Exchange.Chain}

-- the service answered some requests, one after another, and is otherwise unchanged
abbrev pub Answered : {S : Type 0} → (S → Request (List ℕ) → Response → S → Type 0) → S → S → Type 0
Answered answers old new = (calls : List Call) × Chain answers old calls new
