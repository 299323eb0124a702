use Rattle.std.proofs.Common.{◌≡◌, ◌∙◌, ℕ, ◌-◌, List, ◌++◌, refl, sym, ap, drop, length, take, slice_index, arith}
use Rattle.std.specs.Int.{w16, to_be_bytes}
use Rattle.snap_frame.specs.declared.request.Request.TheVariants.{Update, Scan, Status, Part}
use Rattle.snap_frame.{specs.declared.request.Request.Request, specs.Messages.Asks, proofs.BigEndian.same_set}
use Rattle.snap_frame.proofs.request.read_part.Goals as goal

abbrev kind : List ℕ → ℕ
kind x = slice_index x 0

abbrev behind : List ℕ → List ℕ
behind x = take (length x - 1) (drop 1 x)

-- a payload of this kind with an empty set is no request
asks_nothing : (x rest : List ℕ) (r : Request) → kind x ≡ 4 → behind x ≡ to_be_bytes w16 0 ++ rest → Asks x r → ⊥
asks_nothing x rest (Update segment number value) is none asks =
    absurd (let other : 1 ≡ 4 = sym (ap kind asks.1) ∙ is in omega (arith, other))
asks_nothing x rest Scan is none asks = absurd (let other : 2 ≡ 4 = sym (ap kind asks.1) ∙ is in omega (arith, other))
asks_nothing x rest Status is none asks = absurd (let other : 3 ≡ 4 = sym (ap kind asks.1) ∙ is in omega (arith, other))
asks_nothing x rest (Part set) is none asks =
    let bits = same_set set.bits 0 asks.0.1 (omega arith) (ap (take 2) (sym (ap behind asks.1) ∙ none)) in
    absurd (omega (arith, asks.0.0, bits))

pub returns-then-is_empty-clause-malformed : goal.returns-then-is_empty-clause-malformed
returns-then-is_empty-clause-malformed c r asks =
    let bits : c.first_u16.result ≡ 0 = c.if-is_empty.ensures.none.0 refl in
    let rest = drop 2 (behind c.args.payload.now) in
    asks_nothing c.args.payload.now rest r c.requires.part
    (c.first_u16.ensures ∙ ap (λ n. to_be_bytes w16 n ++ rest) bits) asks
