use Rattle.std.proofs.lemmas.{Grind.common_steps, List.get_or_append_left}
use Rattle.std.specs.Int.{w64, to_le_bytes}
use Rattle.std.proofs.Common.{◌≡◌, ℕ, ◌+◌, ◌-◌, ◌*◌, ◌++◌, ◌∷◌, [], List, length, take, drop, ap, ◌∙◌, arith, rules}
use Rattle.std.proofs.Common.{length-append, sym, subst, true, ◌<◌}
use Rattle.snap_register.{specs.Registers.Mine, specs.Steps.view_of, specs.Steps.draft_of, proofs.Blocks.bytes_push}
use Rattle.snap_register.proofs.{Aligned.aligned_first, Drafts.drafted, Drafts.drafted_then, Drafts.draft_is}
use Rattle.snap_register.specs.{Rule.WasAt, Rule.old_words, Rule.old_record, Words.words_for, Words.bytes_at}
use Rattle.snap_register.proofs.access.Access.draft_value.Goals as goal

pub loop-q-preserved : goal.loop-q-preserved
loop-q-preserved c =
    let inv = c.loop-q.invariant in
    let a = c.args.self.now.seat.me in
    let m = c.loop-q.self.seat.me in
    let n = c.draft-in-loop-q.new.self.seat.me in
    let q : ℕ = c.loop-q.q in
    let d : List ℕ = m.0.pool.draft in
    let x : ℕ = c.word_of.result in
    let step = c.draft-in-loop-q.ensures.drafted in
    let by = drafted_then a m n (d ++ x ∷ []) inv.same.3 step.3 in
    let new : n.0.pool.draft ≡ d ++ x ∷ [] = draft_is a n (d ++ x ∷ []) by in
    let long = inv.long in
    let more = length-append d (x ∷ []) in
    let eight : 8 * q + 8 - 8 * q ≡ 8 = omega arith in
    let chunk : to_le_bytes w64 x ≡ take 8 (drop (8 * q) c.args.value.now) =
    c.word_of.ensures ∙ ap (λ (z : ℕ). take z (drop (8 * q) c.args.value.now)) eight in
    record {
      same = (step.0 ∙ inv.same.0, step.1 ∙ inv.same.1, step.2 ∙ inv.same.2, drafted a n (d ++ x ∷ []) by);
      long = ap length new ∙ omega arith;
      number = rw new (get_or_append_left d (x ∷ []) 0 0 (omega arith) ∙ inv.number);
      length_is = rw new (get_or_append_left d (x ∷ []) 0 1 (omega arith) ∙ inv.length_is);
      bytes = ap (λ (l : List ℕ). bytes_at l 2 (q + 1)) new ∙ bytes_push d c.args.value.now q x long inv.bytes chunk;
    }

pub returns-clause-aligned : goal.returns-clause-aligned
returns-clause-aligned c = λ is.
    let both : (c.args.is_filled ≡ true) × (c.draft-old_length.result ≡ length c.args.value.now) = search rules in
    let a = c.args.self.now in
    let m = c.draft.new.self in
    let n = c.draft_tail.new.self in
    let first = c.draft.ensures.drafted.3 in
    let tail = drafted_then a.seat.me c.loop-q.self.seat.me n.seat.me (draft_of n) c.loop-q.invariant.same.3
    c.draft_tail.ensures.same.3 in
    let words : old_words (view_of n) ≡ old_words (view_of m) =
    ap (λ (x : Mine). old_words x.0) tail ∙ sym (ap (λ (x : Mine). old_words x.0) first) in
    let same : old_record (view_of n) ≡ old_record (view_of m) =
    ap (λ (x : Mine). old_record x.0) tail ∙ sym (ap (λ (x : Mine). old_record x.0) first) in
    let any : 0 < old_record (view_of m) = rw (ap (λ (x : Mine). old_record x.0) first) (c.requires.filled both.0) in
    let one : length (draft_of m) ≡ 1 = ap (λ (x : Mine). length x.0.pool.draft) first
    ∙ ap (λ (l : List ℕ). length (l ++ c.args.number ∷ [])) c.requires.empty.0 in
    aligned_first (view_of m) (view_of n) c.draft-old_length.result words same any
    (subst (λ (q : ℕ). WasAt (view_of m) q c.draft-old_length.result) one c.draft-old_length.ensures.old)
    (c.draft_tail.ensures.size ∙ ap (λ (z : ℕ). 2 + words_for z) (sym both.1))

pub returns-clause-size : goal.returns-clause-size
returns-clause-size c = grind (arith, common_steps)

pub returns-clause-block : goal.returns-clause-block
returns-clause-block c = grind (arith, common_steps)
