use Rattle.std.proofs.Common.{◌≡◌, ◌++◌, ◌∷◌, ◌∙◌, [], ℕ, List, length, codes, length-append, ap, arith, lit≤}
use Rattle.std.specs.Fmt.{Cut.cut_to, InlineText.inline_text}
use Rattle.snap_client_commands.proofs.InPlace.{cut_to_fits}
use Rattle.snap_client_commands.proofs.print.stored_line.Goals as goal

pub returns : goal.returns
returns c =
    let word : List ℕ = codes "stored " in
    let digits : List ℕ = c.format.result.now in
    let end : List ℕ = 10 ∷ [] in
    let one : inline_text c.and_str.result ≡ word =
    c.and_str.ensures.within (omega (arith, ap length c.new.ensures.text))
    ∙ ap (λ t. t ++ cut_to 7 word) c.new.ensures.text ∙ cut_to_fits 7 word (lit≤ tt) in
    let two : inline_text c.and_str-2.result ≡ word ++ digits =
    c.and_str-2.ensures.within (omega (arith, ap length one))
    ∙ ap (λ t. t ++ cut_to 40 digits) one ∙ ap (λ t. word ++ t) (cut_to_fits 40 digits c.format.ensures.short) in
    c.and_str-3.ensures.within (omega (arith, ap length two, length-append word digits, c.format.ensures.short))
    ∙ ap (λ t. t ++ cut_to 1 end) two ∙ ap (λ t. (word ++ digits) ++ t) (cut_to_fits 1 end (lit≤ tt))
    ∙ ap (λ t. (word ++ t) ++ end) c.format.ensures.text
