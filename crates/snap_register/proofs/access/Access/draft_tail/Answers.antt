use Rattle.std.proofs.Common.{◌≡◌, ℕ, ◌+◌, ◌-◌, ◌*◌, ◌<◌, ◌++◌, ◌∷◌, [], List, length, take, drop, ap, sym, subst, ◌∙◌}
use Rattle.std.proofs.Common.{arith, length-drop}
use Rattle.std.{proofs.lemmas.List.take-append-drop, proofs.lemmas.List.take_all, specs.Int.w64, specs.Int.to_le_bytes}
use Rattle.snap_register.specs.{Registers.Mine, Words.bytes_at, Words.words_for, Steps.draft_of}
use Rattle.snap_register.proofs.Blocks.{tail_bytes}
use Rattle.snap_register.proofs.access.Access.draft_tail.Goals as goal

pub returns-then-from-value-clause-bytes : goal.returns-then-from-value-clause-bytes
returns-then-from-value-clause-bytes c =
    let d : List ℕ = draft_of c.args.self.now in
    let value : List ℕ = c.args.value.now in
    let x : ℕ = c.tail_word.result in
    let tail : List ℕ = drop (8 * c.args.whole) value in
    let new : draft_of c.draft.new.self ≡ d ++ x ∷ [] = ap (λ (m : Mine). m.0.pool.draft) c.draft.ensures.drafted.3 in
    let slice : List ℕ = take (length value - 8 * c.args.whole) tail in
    let all : slice ≡ tail = take_all (length value - 8 * c.args.whole) tail (omega (
      arith,
      length-drop (8 * c.args.whole) value,
    )) in
    let first : take (length slice) (to_le_bytes w64 x) ≡ slice = c.tail_word.ensures.front in
    let bytes : take (length tail) (to_le_bytes w64 x) ≡ tail =
    subst (λ (l : List ℕ). take (length l) (to_le_bytes w64 x) ≡ l) all first in
    let le : to_le_bytes w64 x ≡ tail ++ drop (length tail) (to_le_bytes w64 x) =
    sym (take-append-drop (length tail) (to_le_bytes w64 x))
    ∙ ap (λ (l : List ℕ). l ++ drop (length tail) (to_le_bytes w64 x)) bytes in
    let a : 8 * c.args.whole < length value = omega (arith, c.if-from-value.true) in
    let b : length value < 8 * c.args.whole + 8 = c.requires.place.2 in
    let last : words_for (length value) ≡ c.args.whole + 1 = omega arith in
    ap (λ (l : List ℕ). take (length value) (bytes_at l 2 (words_for (length value)))) new
    ∙ tail_bytes d value (drop (length tail) (to_le_bytes w64 x)) c.args.whole x c.requires.place.0
    c.requires.bytes le last
