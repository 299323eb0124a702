use Rattle.std.proofs.Common.{◌≡◌, ◌∙◌, [], sym, ap, refl, None, Ok}
use Rattle.snap_frame.{specs.Stream.pending, proofs.Exact.at_end}
use Rattle.snap_frame.proofs.frame_buffer.is_at_head.Goals as goal
use Rattle.snap_frame.proofs.frame_buffer.is_at_head.Goals.{After-decode_eof}

told : (c : After-decode_eof) → (c.decode_eof.result ≡ Ok None → pending c.args.codec [] ≡ [])
    × (pending c.args.codec [] ≡ [] → c.decode_eof.result ≡ Ok None)
told c = at_end c.args.codec c.decode_eof.new.self c.decode_eof.new.src.items c.decode_eof.result
    c.requires (rw c.new-nothing.ensures.items at c.decode_eof.ensures)

pub returns-in-Ok-None : goal.returns-in-Ok-None
returns-in-Ok-None c = (
  λ _. (told (goal.at.returns-in-Ok-None c).After-decode_eof).0 (c.in-Ok-None.is ∙ ap Ok c.in-Ok-None.field-0-is),
  λ _. refl,
)

pub returns-in-Ok-Some : goal.returns-in-Ok-Some
returns-in-Ok-Some c =
    let both = told (goal.at.returns-in-Ok-Some c).After-decode_eof in (
      λ wrong. absurd cc,
      λ none. let e = sym (both.1 none) ∙ c.in-Ok-Some.is in let more = c.in-Ok-Some.field-0-is in absurd cc,
    )

pub returns : goal.returns
returns c =
    let both = told (goal.at.returns c).After-decode_eof in
    (λ wrong. absurd cc, λ none. let e = sym (both.1 none) ∙ c.in-Err.is in absurd cc)
