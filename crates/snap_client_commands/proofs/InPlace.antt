-- Texts in a fixed buffer.
use Rattle.std.proofs.Common.{◌≡◌, ◌≤◌, ℕ, List, length, refl, le-leb}
use Rattle.std.specs.Fmt.Cut.{cut_to}

-- a text that fits is not cut
pub cut_to_fits : (n : ℕ) (text : List ℕ) → length text ≤ n → cut_to n text ≡ text
unfolding cut_to
cut_to_fits n text fits = rw (le-leb (length text) n fits) refl
