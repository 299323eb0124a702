-- The true contents of a file, which no code can know.
use Rattle.std.specs.Prelude.{ℕ, Bool, false, List, []}

pub record Story : Type 0 where
  -- its bytes after this many calls
  pub held : ℕ → List ℕ
  -- which places were written before it was opened, and not synced
  pub open_at_first : ℕ → Bool

-- The stories of all files, by their paths. It is no `abbrev` and not `unfoldable`, so no proof outside
-- of this file can know what it is, and nothing else is in it.
pub untold : List ℕ → Story
untold path = record { held = λ calls. []; open_at_first = λ p. false }
