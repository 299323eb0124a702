use Rattle.std.proofs.Common.{◌∷◌, [], ◌∙◌, ap, sym, codes, ◌≡◌, List, ℕ}
use Rattle.json.specs.Token.{key, string}
use Rattle.snap_order.proofs.{Growth.wrote_last, Values.text_tokens, Values.base64_tokens}
use Rattle.snap_order.proofs.member.put_bytes.Goals as goal

pub returns-in_ok-key-in-Ok-clause-tokens : goal.returns-in_ok-key-in-Ok-clause-tokens
returns-in_ok-key-in-Ok-clause-tokens c =
    let old = c.args.writer.now.tokens in
    let bytes = c.args.bytes.now in
    let is : key (codes "text") ∷ string _ ∷ [] ≡ _ =
    ap (λ (s : List ℕ). key (codes "text") ∷ string s ∷ []) c.in-Ok.ensures.cases.0
    ∙ sym (text_tokens bytes c.in-Ok.ensures.cases.1) in
    rw is at (wrote_last c.string.result old _ _ _ _ c.in_ok-key-in-Ok.ensures.ok c.string.ensures.ok)

pub returns-in_ok-key-in-Err-clause-tokens : goal.returns-in_ok-key-in-Err-clause-tokens
returns-in_ok-key-in-Err-clause-tokens c =
    let old = c.args.writer.now.tokens in
    let bytes = c.args.bytes.now in
    let is : key (codes "base64") ∷ string _ ∷ [] ≡ _ =
    ap (λ (s : List ℕ). key (codes "base64") ∷ string s ∷ [])
    (c.as_str.ensures.value ∙ c.in_ok-text-in-Err.ensures.text) ∙ sym (base64_tokens bytes c.in-Err.ensures.cases.0) in
    rw is at (wrote_last c.string-in-Err.result old _ _ _ _ c.in_ok-key-in-Err.ensures.ok c.string-in-Err.ensures.ok)
