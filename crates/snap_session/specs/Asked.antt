-- Updates that were asked for: `asked i k v` says that an update of segment i to number k and value v was.
use Rattle.std.specs.Prelude.{◌≡◌, ℕ, List, ◌++◌}
use Rattle.snap_frame.specs.declared.request.Request.TheVariants.{Update, Scan, Status, Part}
use Rattle.snap_frame.specs.{Messages.frame, Messages.Asks, declared.request.Request.Request}

-- what the request asks to store was asked for; only an update asks for something to be stored
abbrev pub WasAsked : (asked : ℕ → ℕ → List ℕ → Type 0) → Request → Type 0
WasAsked asked (Update i k v) = asked i k v
WasAsked asked Scan = Unit {0}
WasAsked asked Status = Unit {0}
WasAsked asked (Part set) = Unit {0}

-- each request with a frame among these bytes was asked for
abbrev pub AreAsked : (asked : ℕ → ℕ → List ℕ → Type 0) → List ℕ → Type 0
AreAsked asked bytes = (before x behind : List ℕ) (q : Request) → bytes ≡ before ++ (frame x ++ behind)
    → Asks x q → WasAsked asked q

-- whatever arrives was asked for
abbrev pub AllAsked : (asked : ℕ → ℕ → List ℕ → Type 0) → Type 0
AllAsked asked = (q : Request) → WasAsked asked q
