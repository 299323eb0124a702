-- The bytes of a value in a document.
use Rattle.std.proofs.Common.{◌≡◌, ℕ, List, [], ◌∷◌, codes}
use Rattle.std.specs.Str.{IsUtf8, is_utf8}
use Rattle.std.proofs.lemmas.{Bool.false_from_ne_true, Str.IsUtf8-from_is_utf8, Str.is_utf8-from_IsUtf8}
use Rattle.base64.specs.{Engines.standard, GeneralPurpose.encode_of}
use Rattle.json.specs.Token.{key, string}
use Rattle.snap_order.specs.Documents.{bytes_tokens}

pub text_tokens : (bytes : List ℕ) → IsUtf8 bytes → bytes_tokens bytes ≡ key (codes "text") ∷ string bytes ∷ []
text_tokens bytes u = rw (is_utf8-from_IsUtf8 bytes u)

pub base64_tokens : (bytes : List ℕ) → ¬ (IsUtf8 bytes)
    → bytes_tokens bytes ≡ key (codes "base64") ∷ string (encode_of standard bytes) ∷ []
base64_tokens bytes other =
    rw (false_from_ne_true (is_utf8 bytes) (λ t. other (IsUtf8-from_is_utf8 bytes t)))
